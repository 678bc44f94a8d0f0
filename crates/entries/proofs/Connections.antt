-- Tables of connections: what stands there, word by word, is what the definitions read, and what was accepted is the table.
use Prim.Native.Nat.{ℕ, zero, suc, ◌*◌, ◌+◌, ◌<◌, ◌≤◌}
use mathlib.Core.Bool.{false, false≢true, not, true}
use mathlib.Core.List.{List, [], ◌∷◌}
use mathlib.Core.Option.{Option, none, some}
use mathlib.Core.Path.{◌∙◌, ◌≡◌, ap, refl, subst₂, sym}
use native.Mathlib.Nat.{add-zero}
use native.Mathlib.Omega.{arith}
use borrow.Author.Tests.{le-leb, le-ltb, leb-true, lt-leb, lt-ltb, ne_eqb}
use lib.Dec.{eqb, leb, ltb}
use lib.ListN.{get_or, length}
use Rattle.model.specs.declared.Refusal.TheVariants.{EndsUnfit, NoSupport}
use Rattle.model.specs.Connect.{add_connection, misplaced, supported}
use Rattle.model.specs.Forest.{cur, nxt}
use Rattle.model.specs.Judged.{Judged, bad, good}
use Rattle.model.specs.Node.{Node}
use Rattle.model.specs.Tables.{connection_entry, connection_of, entries, why_of, connection_words, next_at, why_at, by_rule_at, forward_at}
use Rattle.model.specs.declared.Connection.{Connection}
use Rattle.model.specs.declared.Direction.{Direction}
use Rattle.model.specs.declared.Direction.TheVariants.{Forward}
use Rattle.model.specs.declared.Justification.{Justification}
use Rattle.model.specs.declared.Justification.TheVariants.{Congruence, Rule as by_rule}
use Rattle.laws.proofs.Judging.{first-bad, one_more, taken, whole}
use Rattle.paths.specs.Hangs.{AcceptedConnections}
use Rattle.laws.specs.Present.{present}
use Rattle.entries.specs.Connections.{connection_in, connections_to, direction_in, oldest, why_in}

pub is-forward : (f : ℕ) → (f ≡ 0 → ⊥) → Forward ≡ direction_in f
is-forward zero p = absurd (p refl)
is-forward (suc f) p = refl

is-rule : (k r f : ℕ) → (k ≡ 0 → ⊥) → why_in k r f ≡ by_rule (record { 0 = r }) (direction_in f)
is-rule zero r f p = absurd (p refl)
is-rule (suc k) r f p = refl

abbrev made : ℕ → ℕ → Justification → Connection
made a b w = record { current = record { 0 = a }; next = record { 0 = b }; why = w }

module _ (ws : List ℕ) (i : ℕ) {a b : ℕ} where
  pub connection-cong : a ≡ get_or ws (i * connection_words + 0) 0 → b ≡ get_or ws (i * connection_words + next_at) 0 → get_or ws (i * connection_words + why_at) 0 ≡ 0 →
      made a b Congruence ≡ connection_in ws i
  unfolding connection_in
  connection-cong p q k = rw (k, p, q, add-zero) refl

  pub connection-rule : a ≡ get_or ws (i * connection_words + 0) 0 → b ≡ get_or ws (i * connection_words + next_at) 0 → (get_or ws (i * connection_words + why_at) 0 ≡ 0 → ⊥) → {r : ℕ} →
      r ≡ get_or ws (i * connection_words + by_rule_at) 0 → {d : Direction} → d ≡ direction_in (get_or ws (i * connection_words + forward_at) 0) → made a b
      (by_rule (record { 0 = r }) d) ≡ connection_in ws i
  unfolding connection_in
  connection-rule p q k e g =
      rw (is-rule (get_or ws (i * connection_words + why_at) 0) (get_or ws (i * connection_words + by_rule_at) 0) (get_or ws (i * connection_words + forward_at) 0) k, p, q, e, g, add-zero) refl

pub length-oldest : (k : ℕ) (ws : List ℕ) → length (oldest k ws) ≡ k
unfolding oldest
length-oldest zero ws = refl
length-oldest (suc k) ws = ap suc (length-oldest k ws)

-- an entry that is there is the connection that the table holds
present-why : (k r f : ℕ) {w : Justification} → why_of k r f ≡ some w → w ≡ why_in k r f
present-why zero zero zero p = cc
present-why zero zero (suc f) p = let z : ◌≡◌ {A = ℕ} 0 1 = cc in absurd (omega arith)
present-why zero (suc r) f p = let z : ◌≡◌ {A = ℕ} 0 1 = cc in absurd (omega arith)
present-why (suc zero) r zero p = cc
present-why (suc zero) r (suc zero) p = cc
present-why (suc zero) r (suc (suc f)) p = let z : ◌≡◌ {A = ℕ} 0 1 = cc in absurd (omega arith)
present-why (suc (suc k)) r f p = let z : ◌≡◌ {A = ℕ} 0 1 = cc in absurd (omega arith)

entry-made : (a b k r f : ℕ) (o : Option Justification) → why_of k r f ≡ o → {c : Connection} → connection_of a b o ≡ some c →
    c ≡ made a b (why_in k r f)
entry-made a b k r f none q p = let z : ◌≡◌ {A = ℕ} 0 1 = cc in absurd (omega arith)
entry-made a b k r f (some w) q p = rw (← (present-why k r f q)) cc

pub record Entry (ws : List ℕ) (i : ℕ) (c : Connection) : Type 0 where
  pub room : i * connection_words + connection_words ≤ length ws
  pub is : c ≡ connection_in ws i

pub entry-some : (ws : List ℕ) (i : ℕ) {c : Connection} → connection_entry ws i ≡ some c → Entry ws i c
unfolding connection_entry connection_in
entry-some ws i p =
    let a = get_or ws (i * connection_words) 0 in
    let b = get_or ws (i * connection_words + next_at) 0 in
    let k = get_or ws (i * connection_words + why_at) 0 in
    let r = get_or ws (i * connection_words + by_rule_at) 0 in
    let f = get_or ws (i * connection_words + forward_at) 0 in
    let w = whole (leb (i * connection_words + connection_words) (length ws)) (connection_of a b (why_of k r f)) p in
    record { room = leb-true _ _ w.0; is = entry-made a b k r f (why_of k r f) refl w.1 }

-- when an entry is there
present-made : (a b : ℕ) (w : Option Justification) → present (connection_of a b w) ≡ present w
present-made a b none = refl
present-made a b (some w) = refl

module _ (ws : List ℕ) (i : ℕ) where
  pub present-short : length ws < i * connection_words + connection_words → present (connection_entry ws i) ≡ false
  unfolding connection_entry
  present-short h = rw (lt-leb _ _ h) refl

  pub present-long : i * connection_words + connection_words ≤ length ws → {k r f : ℕ} → k ≡ get_or ws (i * connection_words + why_at) 0 → r ≡ get_or ws (i * connection_words + by_rule_at) 0 →
      f ≡ get_or ws (i * connection_words + forward_at) 0 →
      present (connection_entry ws i) ≡ present (why_of k r f)
  unfolding connection_entry
  present-long h p q s = rw (le-leb _ _ h, p, q, s)
      (present-made (get_or ws (i * connection_words) 0) (get_or ws (i * connection_words + next_at) 0) (why_of (get_or ws (i * connection_words + why_at) 0) (get_or ws (i * connection_words + by_rule_at) 0) (get_or ws (i * connection_words + forward_at) 0)))

pub fields-cong : (k r f : ℕ) → k ≡ 0 → r ≡ 0 → present (why_of k r f) ≡ eqb f 0
fields-cong k r zero p q = rw (p, q) refl
fields-cong k r (suc f) p q = rw (p, q) (sym (ne_eqb (suc f) 0 (λ e. omega arith)))

pub fields-named : (k r f : ℕ) → k ≡ 0 → (r ≡ 0 → ⊥) → present (why_of k r f) ≡ false
fields-named k zero f p q = absurd (q refl)
fields-named k (suc r) f p q = rw p refl

pub fields-rule : (k r f : ℕ) → k ≡ 1 → present (why_of k r f) ≡ ltb f 2
fields-rule k r zero p = rw p (sym (lt-ltb 0 2 (omega arith)))
fields-rule k r (suc zero) p = rw p (sym (lt-ltb 1 2 (omega arith)))
fields-rule k r (suc (suc f)) p = rw p (sym (le-ltb (suc (suc f)) 2 (omega arith)))

pub fields-none : (k r f : ℕ) → (k ≡ 0 → ⊥) → (k ≡ 1 → ⊥) → present (why_of k r f) ≡ false
fields-none zero r f p q = absurd (p refl)
fields-none (suc zero) r f p q = absurd (q refl)
fields-none (suc (suc k)) r f p q = refl

pub record There (ws : List ℕ) (i : ℕ) : Type 0 where
  pub room : i * connection_words + connection_words ≤ length ws
  pub is : connection_entry ws i ≡ some (connection_in ws i)

pub entry-there : (ws : List ℕ) (i : ℕ) → present (connection_entry ws i) ≡ true → There ws i
entry-there ws i p = go (connection_entry ws i) refl
  where
    go : (o : Option Connection) → connection_entry ws i ≡ o → There ws i
    go none q = let z : false ≡ true = sym (ap present q) ∙ p in absurd (false≢true z)
    go (some c) q = let e = entry-some ws i q in record { room = e.room; is = q ∙ ap some e.is }

-- a table of connections, entry by entry
pub record Connections (ns : List Node) (ws : List ℕ) (k : ℕ) (cs : List Connection) : Type 0 where
  pub is : cs ≡ oldest k ws
  pub accepted : AcceptedConnections ns (oldest k ws)
  pub room : k * connection_words ≤ length ws

some_same : {A : Type 0} {a b : A} → some a ≡ some b → a ≡ b
some_same p = cc

record Added (ns : List Node) (cs : List Connection) (e : Option Connection) (new : List Connection) : Type 0 where
  conn : Connection
  entry : e ≡ some conn
  is : new ≡ conn ∷ cs
  accepted : add_connection ns cs (some conn) ≡ good (conn ∷ cs)

added : (ns : List Node) (cs : List Connection) (e : Option Connection) (new : List Connection) → add_connection ns cs e ≡ good new →
    Added ns cs e new
unfolding add_connection
added ns cs none new p = let z : ◌≡◌ {A = ℕ} 0 1 = cc in absurd (omega arith)
added ns cs (some c) new p =
    let a = taken (misplaced ns cs c) EndsUnfit _ _ p in
    let b = taken (not (supported ns cs c.why (cur c) (nxt c))) NoSupport _ _ a.1 in
    let q : new ≡ c ∷ cs = cc in
    record { conn = c; entry = refl; is = q; accepted = rw q at p }

pub added-some : (ns : List Node) (cs : List Connection) (c : Connection) {new : List Connection} →
    add_connection ns cs (some c) ≡ good new → add_connection ns cs (some c) ≡ good (c ∷ cs)
added-some ns cs c {new} p =
    let a = added ns cs (some c) new p in
    let e : c ≡ a.conn = some_same a.entry in
    p ∙ ap good (a.is ∙ ap (λ (d : Connection). d ∷ cs) (sym e))

pub step-connection : (ns : List Node) (ws : List ℕ) (k : ℕ) {cs new : List Connection} → Connections ns ws k cs →
    add_connection ns cs (connection_entry ws k) ≡ good new → Connections ns ws (suc k) new
unfolding oldest
step-connection ns ws k {cs} {new} s p =
    let a = added ns cs (connection_entry ws k) new p in
    let e = entry-some ws k a.entry in
    let q = a.accepted in
    let r = s.is in
    record {
      is = a.is ∙ cc;
      accepted =
          (subst₂ (λ (c : Connection) (l : List Connection). add_connection ns l (some c) ≡ good (c ∷ l)) e.is s.is a.accepted, s.accepted);
      room = omega (arith, e.room);
    }

pub connections : (ns : List Node) (ws : List ℕ) (k : ℕ) (cs : List Connection) → connections_to ns ws k ≡ good cs → Connections ns ws k cs
unfolding entries oldest
connections ns ws zero cs p = record { is = cc; accepted = tt; room = omega arith }
connections ns ws (suc k) cs p = go (connections_to ns ws k) refl (connections ns ws k)
  where
    go : (j : Judged (List Connection)) → connections_to ns ws k ≡ j →
        ((older : List Connection) → connections_to ns ws k ≡ good older → Connections ns ws k older) → Connections ns ws (suc k) cs
    go (good older) q rec = step-connection ns ws k (rec older q) (sym (one_more (add_connection ns) (connection_entry ws) [] k q) ∙ p)
    go (bad n) q rec =
        let z : ◌≡◌ {A = ℕ} 0 1 = cc (first-bad (add_connection ns) (connection_entry ws) [] k (suc k) n (omega arith) q) in
        absurd (omega arith)
