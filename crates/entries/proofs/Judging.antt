-- Judging one entry, test by test: a connection, and a node.
use Prim.Native.Nat.{ℕ, ◌*◌, ◌+◌, ◌<◌, ◌≤◌}
use mathlib.Core.Bool.{Bool, ◌||◌, cond, false, false≢true, not, or-true, true}
use mathlib.Core.List.{List}
use mathlib.Core.Option.{Option, none, some}
use mathlib.Core.Path.{◌∙◌, ◌≡◌, ap, refl, sym}
use borrow.Author.Tests.{le-leb, le-ltb, lt-leb, lt-ltb, ne_eqb}
use lib.Dec.{eqb, ltb}
use lib.ListN.{length}
use Rattle.model.specs.Connect.{add_connection, misplaced, supported}
use Rattle.model.specs.Forest.{cur, is_top, joined, nxt, parent_of, root, top}
use Rattle.model.specs.Judged.{judgement_of}
use Rattle.model.specs.Limits.{child_limit, node_limit}
use Rattle.model.specs.Node.{Node, add_node, all_below}
use Rattle.model.specs.Tables.{node_entry, node_words}
use Rattle.model.specs.declared.Connection.{Connection}
use Rattle.model.specs.declared.Direction.{Direction}
use Rattle.std.proofs.Common.{Ok, Err}
use Rattle.model.specs.declared.Refusal.TheVariants.{NoEntry, TableFull, ChildNotBelow, EndsUnfit, NoSupport}
use Rattle.model.specs.declared.Justification.TheVariants.{Congruence, Rule as by_rule}
use Rattle.model.specs.declared.RuleNo.{RuleNo}
use Rattle.paths.proofs.Laws.{joined-yes}
use Rattle.entries.proofs.Nodes.{children-in, operator-in}
use Rattle.laws.specs.Present.{present}
use Rattle.entries.specs.Connections.{support_in}
use Rattle.entries.specs.Nodes.{children_in, count_in, first_nodes}

module _ (ns : List Node) (cs : List Connection) (c : Connection) where
  -- 6 is given for the first of its reasons that the code meets
  mis-current : length ns ≤ cur c → misplaced ns cs c ≡ true
  unfolding misplaced
  mis-current h = rw (le-ltb _ _ h) refl

  mis-next : cur c < length ns → length ns ≤ nxt c → misplaced ns cs c ≡ true
  unfolding misplaced
  mis-next l h = rw (lt-ltb _ _ l, le-ltb _ _ h) refl

  mis-parent : is_top (parent_of cs (cur c)) ≡ false → misplaced ns cs c ≡ true
  unfolding misplaced
  mis-parent p =
      rw p
      (ap (λ b. b || joined cs (cur c) (nxt c)) (or-true (not (ltb (cur c) (length ns)) || not (ltb (nxt c) (length ns)) || eqb (cur c) (nxt c))))

  mis-joined : joined cs (cur c) (nxt c) ≡ true → misplaced ns cs c ≡ true
  unfolding misplaced
  mis-joined p =
      rw p
      (or-true (not (ltb (cur c) (length ns)) || not (ltb (nxt c) (length ns)) || eqb (cur c) (nxt c) || not (is_top (parent_of cs (cur c)))))

  well-placed : cur c < length ns → nxt c < length ns → parent_of cs (cur c) ≡ top → joined cs (cur c) (nxt c) ≡ false →
      misplaced ns cs c ≡ false
  unfolding misplaced
  well-placed a b p j =
      rw (
        lt-ltb _ _ a,
        lt-ltb _ _ b,
        ne_eqb (cur c) (nxt c) (λ e. false≢true (sym j ∙ joined-yes cs (cur c) (nxt c) (ap (root cs) e))),
        p,
        j,
      )
      refl

  judged-unfit : misplaced ns cs c ≡ true → Err EndsUnfit ≡ judgement_of (add_connection ns cs (some c))
  unfolding add_connection
  judged-unfit p = rw p refl

  judged-on : (b : Bool) → misplaced ns cs c ≡ false → supported ns cs c.why (cur c) (nxt c) ≡ b →
      judgement_of (add_connection ns cs (some c)) ≡ cond b (Ok tt) (Err NoSupport)
  unfolding add_connection
  judged-on true p q = rw (p, q) refl
  judged-on false p q = rw (p, q) refl

  pub out-current : length ns ≤ cur c → Err EndsUnfit ≡ judgement_of (add_connection ns cs (some c))
  out-current h = judged-unfit (mis-current h)

  pub out-next : cur c < length ns → length ns ≤ nxt c → Err EndsUnfit ≡ judgement_of (add_connection ns cs (some c))
  out-next l h = judged-unfit (mis-next l h)

  pub has-parent : is_top (parent_of cs (cur c)) ≡ false → Err EndsUnfit ≡ judgement_of (add_connection ns cs (some c))
  has-parent p = judged-unfit (mis-parent p)

  pub already : joined cs (cur c) (nxt c) ≡ true → Err EndsUnfit ≡ judgement_of (add_connection ns cs (some c))
  already p = judged-unfit (mis-joined p)

  -- where the ends are not refused, the support decides
  pub record Placed : Type 0 where
    pub current-in : cur c < length ns
    pub next-in : nxt c < length ns
    pub free : parent_of cs (cur c) ≡ top
    pub apart : joined cs (cur c) (nxt c) ≡ false

  pub by-rule : Placed → {n : RuleNo} {d : Direction} → c.why ≡ by_rule n d → Ok tt ≡ judgement_of (add_connection ns cs (some c))
  unfolding supported
  by-rule p w = sym (judged-on true (well-placed p.current-in p.next-in p.free p.apart) (rw w refl))

  pub by-support : Placed → c.why ≡ Congruence → (b : Bool) → supported ns cs Congruence (cur c) (nxt c) ≡ b →
      cond b (Ok tt) (Err NoSupport) ≡ judgement_of (add_connection ns cs (some c))
  by-support p w b q =
      sym (judged-on b (well-placed p.current-in p.next-in p.free p.apart) (ap (λ v. supported ns cs v (cur c) (nxt c)) w ∙ q))

-- over words
pub supported-in : (n : ℕ) (ws : List ℕ) (cs : List Connection) (a b : ℕ) → a < n → b < n →
    supported (first_nodes n ws) cs Congruence a b ≡ support_in ws cs a b
unfolding supported
supported-in n ws cs a b p q = rw (operator-in n ws a p, operator-in n ws b q, children-in n ws a p, children-in n ws b q) refl

-- an entry that is not there
pub absent : (ns : List Node) (cs : List Connection) (o : Option Connection) → present o ≡ false →
    Err NoEntry ≡ judgement_of (add_connection ns cs o)
unfolding add_connection
absent ns cs none p = refl
absent ns cs (some c) p = absurd (false≢true (sym p))

-- Judging a node, test by test.
module _ (ns : List Node) (ws : List ℕ) (n : ℕ) where
  pub node-short : length ws < n * node_words + node_words → Err NoEntry ≡ judgement_of (add_node ns (node_entry ws n))
  unfolding add_node node_entry
  node-short h = rw (lt-leb _ _ h) refl

  pub node_wide : n * node_words + node_words ≤ length ws → child_limit < count_in ws n → Err NoEntry ≡ judgement_of (add_node ns (node_entry ws n))
  unfolding add_node node_entry
  node_wide r h = rw (le-leb _ _ r, lt-leb _ _ h) refl

  module _ (r : n * node_words + node_words ≤ length ws) (k : count_in ws n ≤ child_limit) where
    pub node-many : node_limit ≤ length ns → Err TableFull ≡ judgement_of (add_node ns (node_entry ws n))
    unfolding add_node node_entry
    node-many h = rw (le-leb _ _ r, le-leb _ _ k, le-leb _ _ h) refl

    pub node-lower : length ns < node_limit → (b : Bool) → all_below (length ns) (children_in ws n) ≡ b →
        cond b (Ok tt) (Err ChildNotBelow) ≡ judgement_of (add_node ns (node_entry ws n))
    unfolding add_node node_entry
    node-lower h true p = rw (le-leb _ _ r, le-leb _ _ k, lt-leb _ _ h, p) refl
    node-lower h false p = rw (le-leb _ _ r, le-leb _ _ k, lt-leb _ _ h, p) refl
