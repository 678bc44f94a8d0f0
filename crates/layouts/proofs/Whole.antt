-- TABLES HANDED IN WHOLE ARE JUDGED AS THEIR FRAMES WOULD BE: the program that runs the lines of their entries (nodes, rules,
-- connections) holds the same tables then, or stops at the same refusal.
use Prim.Native.Nat.{ℕ, zero, suc, ◌+◌, ◌≤◌}
use native.Mathlib.Nat.{add-zero, add-suc, suc-add}
use native.Mathlib.Omega.{arith}
use mathlib.Core.Bool.{true}
use mathlib.Core.List.{List, [], ◌∷◌, ◌++◌}
use mathlib.Core.Option.{Option, some}
use mathlib.Core.Path.{◌≡◌, refl, sym, ap, ◌∙◌}
use borrow.Author.Tests.{le-leb}
use lib.ListN.{length}
use Rattle.model.specs.declared.Connection.{Connection}
use Rattle.model.specs.Judged.{Judged, good, bad}
use Rattle.model.specs.Rule.{Rule, add_rule}
use Rattle.model.specs.Node.{Node, add_node}
use Rattle.model.specs.Connect.{add_connection}
use Rattle.model.specs.Query.{Tables}
use Rattle.model.specs.Tables.{node_words, rule_words, connection_words, entries_in, node_entry, rule_entry, connection_entry, and_add, entries, node_table, rule_table, connection_table, with_nodes, with_rules, with_connections, judge_tables}
use Rattle.model.specs.Frame.{node_kind, rule_kind, connection_kind, frame_of}
use Rattle.model.specs.Run.{State, start, Turn, go, stop, node_turn, rule_turn, connection_turn, frame_turn, in_order, line_turn}
use Rattle.layouts.specs.Bytes.{node_bytes, rule_bytes, connection_bytes}
use Rattle.layouts.specs.Frames.{lines_to, frames_of, turns, tables_after}
use Rattle.layouts.proofs.Entries.{node-frame, connection-frame}
use Rattle.layouts.proofs.Rules.{rule-frame}

-- the state of a run with the tables t
abbrev with : ℕ → List ℕ → Tables → State
with k ws t = record { kind = k; tables = t; open-words = ws }

-- a turn leaves the tables t, and a last kind of at most m
record Stands (m : ℕ) (t : Tables) (x : Turn) : Type 0 where
  out : List ℕ
  kind : ℕ
  ws : List ℕ
  comes : x ≡ go out (with kind ws t)
  low : kind ≤ m

abbrev Comes : ℕ → Judged Tables → Turn → Type 0
Comes m (good t) x = Stands m t x
Comes m (bad n) x = x ≡ stop n

abbrev judged_as : {A : Type 0} → (A → Tables) → Judged A → Judged Tables
judged_as into (good a) = good (into a)
judged_as into (bad n) = bad n

-- lines behind lines
abbrev onward : Turn → ℕ → List (List ℕ) → Turn
onward (go out s) l ys = turns s l ys
onward (stop n) l ys = stop n

turns-append : (xs ys : List (List ℕ)) (s : State) (l : ℕ) → turns s l (xs ++ ys) ≡ onward (turns s l xs) (l + length xs) ys
unfolding turns
turns-append [] ys s l = rw add-zero refl
turns-append (x ∷ xs) ys s l = by (line_turn s l (some x)) (λ s'. turns-append xs ys s' (suc l))
  where
    by : (t : Turn) → ((s' : State) → turns s' (suc l) (xs ++ ys) ≡ onward (turns s' (suc l) xs) (suc l + length xs) ys)
        → elim t [ go out s' ↦ turns s' (suc l) (xs ++ ys) | stop n ↦ stop n ]
        ≡ onward (elim t [ go out s' ↦ turns s' (suc l) xs | stop n ↦ stop n ]) (l + suc (length xs)) ys
    by (go out s') h = h s' ∙ ap (λ (k : ℕ). onward (turns s' (suc l) xs) k ys) (suc-add l (length xs) ∙ sym (add-suc l (length xs)))
    by (stop n) h = refl

one_line : (m l : ℕ) (j : Judged Tables) (s : State) (x : List ℕ) → Comes m j (line_turn s l (some x)) → Comes m j (turns s l (x ∷ []))
unfolding turns
one_line m l (good t) s x c = record { out = []; kind = c.kind; ws = c.ws; comes = rw (c.comes, turns) refl; low = c.low }
one_line m l (bad n) s x c = rw (c, turns) refl

-- the lines of one table, entry by entry
module _ {A E : Type 0} (kind : ℕ) (into : A → Tables) (add : A → Option E → Judged A) (entry : ℕ → Option E) (bytes : ℕ → List ℕ)
    (line : (k : ℕ) (ws : List ℕ) (l i : ℕ) (a : A) → k ≤ kind
    → Comes kind (judged_as into (add a (entry i))) (line_turn (with k ws (into a)) l (some (kind ∷ bytes i)))) (first : A) where
  one_more : (s : State) (l k : ℕ) (j : Judged A) → Comes kind (judged_as into j) (turns s l (lines_to kind bytes k))
      → Comes kind (judged_as into (and_add add entry first j (entry k))) (turns s l (lines_to kind bytes k ++ ((kind ∷ bytes k) ∷ [])))
  one_more s l k (bad n) c = rw (turns-append (lines_to kind bytes k) ((kind ∷ bytes k) ∷ []) s l, c) refl
  one_more s l k (good a) c =
      let next = l + length (lines_to kind bytes k) in
      rw (turns-append (lines_to kind bytes k) ((kind ∷ bytes k) ∷ []) s l, c.comes)
      (one_line kind next (judged_as into (add a (entry k))) (with c.kind c.ws (into a)) (kind ∷ bytes k)
      (line c.kind c.ws next k a c.low))

  phase : (k : ℕ) (ws : List ℕ) → k ≤ kind → (l n : ℕ)
      → Comes kind (judged_as into (entries add entry first n)) (turns (with k ws (into first)) l (lines_to kind bytes n))
  unfolding turns lines_to entries
  phase k ws h l zero = record { out = []; kind = k; ws = ws; comes = refl; low = h }
  phase k ws h l (suc n) = one_more (with k ws (into first)) l n (entries add entry first n) (phase k ws h l n)

-- one line of each kind
in_order_lem : (k m : ℕ) → k ≤ m → in_order k m ≡ true
unfolding in_order
in_order_lem k m h = rw (le-leb k m h) refl

abbrev tables_with : List Node → List Rule → List Connection → Tables
tables_with ns rs cs = record { nodes = ns; rules = rs; conns = cs }

module _ (k : ℕ) (open-words : List ℕ) (l i : ℕ) (ws : List ℕ) where
  node-line : (ns : List Node) → k ≤ node_kind
      → Comes node_kind (judged_as (λ ns'. tables_with ns' [] []) (add_node ns (node_entry ws i)))
      (line_turn (with k open-words (tables_with ns [] [])) l (some (node_kind ∷ node_bytes ws i)))
  unfolding line_turn frame_turn frame_of
  node-line ns h = rw (in_order_lem k node_kind h, node-frame ws i) (by (add_node ns (node_entry ws i)))
    where
      by : (j : Judged (List Node)) → Comes node_kind (judged_as (λ ns'. tables_with ns' [] []) j) (node_turn (with k open-words (tables_with ns [] [])) j)
      by (bad n) = refl
      by (good ns') = record { out = []; kind = node_kind; ws = []; comes = refl; low = omega arith }

  rule-line : (ns : List Node) (rs : List Rule) → k ≤ rule_kind
      → Comes rule_kind (judged_as (λ rs'. tables_with ns rs' []) (add_rule rs (rule_entry ws i)))
      (line_turn (with k open-words (tables_with ns rs [])) l (some (rule_kind ∷ rule_bytes ws i)))
  unfolding line_turn frame_turn frame_of
  rule-line ns rs h = rw (in_order_lem k rule_kind h, rule-frame ws i) (by (add_rule rs (rule_entry ws i)))
    where
      by : (j : Judged (List Rule)) → Comes rule_kind (judged_as (λ rs'. tables_with ns rs' []) j) (rule_turn (with k open-words (tables_with ns rs [])) j)
      by (bad n) = refl
      by (good rs') = record { out = []; kind = rule_kind; ws = []; comes = refl; low = omega arith }

  connection-line : (ns : List Node) (rs : List Rule) (cs : List Connection) → k ≤ connection_kind
      → Comes connection_kind (judged_as (tables_with ns rs) (add_connection ns cs (connection_entry ws i)))
      (line_turn (with k open-words (tables_with ns rs cs)) l (some (connection_kind ∷ connection_bytes ws i)))
  unfolding line_turn frame_turn frame_of
  connection-line ns rs cs h = rw (in_order_lem k connection_kind h, connection-frame ws i) (by (add_connection ns cs (connection_entry ws i)))
    where
      by : (j : Judged (List Connection)) → Comes connection_kind (judged_as (tables_with ns rs) j) (connection_turn (with k open-words (tables_with ns rs cs)) j)
      by (bad n) = refl
      by (good cs') = record { out = []; kind = connection_kind; ws = []; comes = refl; low = omega arith }

-- the three tables, one behind the other
after : (m : ℕ) (j : Judged Tables) (x : Turn) → Comes m j x → tables_after x ≡ j
after m (good t) x c = rw c.comes refl
after m (bad n) x c = rw c refl

module _ (nws rws cws : List ℕ) where
  abbrev node_frames : List (List ℕ)
  node_frames = lines_to node_kind (node_bytes nws) (entries_in node_words (length nws))

  abbrev rule_frames : List (List ℕ)
  rule_frames = lines_to rule_kind (rule_bytes rws) (entries_in rule_words (length rws))

  abbrev connection_frames : List (List ℕ)
  connection_frames = lines_to connection_kind (connection_bytes cws) (entries_in connection_words (length cws))

  connections-last : (ns : List Node) (rs : List Rule) (k : ℕ) (ws : List ℕ) (l : ℕ) → k ≤ connection_kind
      → tables_after (turns (with k ws (tables_with ns rs [])) l connection_frames) ≡ with_connections ns rs (connection_table ns cws)
  unfolding connection_table
  connections-last ns rs k ws l h =
      after connection_kind _ _
      (phase connection_kind (tables_with ns rs) (add_connection ns) (connection_entry cws) (connection_bytes cws)
      (λ k ws l i cs h. connection-line k ws l i cws ns rs cs h) [] k ws h l (entries_in connection_words (length cws)))
      ∙ same (connection_table ns cws)
    where
      same : (j : Judged (List Connection)) → judged_as (tables_with ns rs) j ≡ with_connections ns rs j
      same (good cs) = refl
      same (bad n) = refl

  rules-then : (ns : List Node) (k : ℕ) (ws : List ℕ) (l : ℕ) → k ≤ rule_kind
      → tables_after (turns (with k ws (tables_with ns [] [])) l (rule_frames ++ connection_frames))
      ≡ with_rules ns (rule_table rws) (connection_table ns cws)
  unfolding rule_table
  rules-then ns k ws l h =
      rw (turns-append rule_frames connection_frames (with k ws (tables_with ns [] [])) l)
      (by (rule_table rws) (turns (with k ws (tables_with ns [] [])) l rule_frames)
      (phase rule_kind (λ rs. tables_with ns rs []) add_rule (rule_entry rws) (rule_bytes rws)
      (λ k ws l i rs h. rule-line k ws l i rws ns rs h) [] k ws h l (entries_in rule_words (length rws))))
    where
      by : (j : Judged (List Rule)) (x : Turn) → Comes rule_kind (judged_as (λ rs. tables_with ns rs []) j) x
          → tables_after (onward x (l + length rule_frames) connection_frames) ≡ with_rules ns j (connection_table ns cws)
      by (bad n) x c = rw c refl
      by (good rs) x c = rw c.comes (connections-last ns rs c.kind c.ws (l + length rule_frames) (omega (arith, c.low)))

  pub as-frames : tables_after (turns start 1 (frames_of nws rws cws)) ≡ judge_tables nws rws cws
  unfolding frames_of judge_tables node_table
  as-frames =
      rw (turns-append node_frames (rule_frames ++ connection_frames) start 1)
      (by (node_table nws) (turns start 1 node_frames)
      (phase node_kind (λ ns. tables_with ns [] []) add_node (node_entry nws) (node_bytes nws)
      (λ k ws l i ns h. node-line k ws l i nws ns h) [] 0 [] (omega arith) 1 (entries_in node_words (length nws))))
    where
      by : (j : Judged (List Node)) (x : Turn) → Comes node_kind (judged_as (λ ns. tables_with ns [] []) j) x
          → tables_after (onward x (1 + length node_frames) (rule_frames ++ connection_frames))
          ≡ with_nodes j (rule_table rws) (λ ns. connection_table ns cws)
      by (bad n) x c = rw c refl
      by (good ns) x c = rw c.comes (rules-then ns c.kind c.ws (1 + length node_frames) (omega (arith, c.low)))
