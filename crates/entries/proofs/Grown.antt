-- A table that grows by an entry: an entry is read from its own words alone, so that what is written behind the first k entries
-- leaves them as they are, and is the next.
use Prim.Native.Nat.{ℕ, zero, suc, ◌*◌, ◌+◌, ◌≤◌, ◌<◌}
use mathlib.Core.Bool.{Bool, true, false}
use mathlib.Core.List.{List, [], ◌∷◌}
use mathlib.Core.Option.{some}
use mathlib.Core.Path.{◌∙◌, ◌≡◌, ap, ap₂, refl, sym}
use native.Mathlib.Nat.{add-zero, add-suc, suc-add, suc-mul, mul-le-mul_right}
use native.Mathlib.Omega.{arith}
use borrow.Author.Tests.{le-leb, leb-true}
use lib.Dec.{leb}
use lib.ListN.{get_or, length, take}
use lib.Seq.{get_or-take}
use Rattle.model.specs.Limits.{child_limit}
use Rattle.model.specs.Node.{Node, add_node}
use Rattle.model.specs.Connect.{add_connection}
use Rattle.model.specs.Tables.{node_at, node_entry, words_from, node_words, count_at, children_at, connection_entry, connection_words, next_at, why_at, by_rule_at, forward_at, only_if}
use Rattle.laws.specs.Area.{part}
use Rattle.laws.proofs.Area.{length_part, part_at, same-part}
use Rattle.laws.proofs.Judging.{entries-same}
use Rattle.entries.specs.Connections.{connections_to}
use Rattle.entries.specs.Nodes.{nodes_to}

-- a run of words is read alike from two tables that have the same words there
words-alike : (ws vs : List ℕ) (a b n : ℕ) → ((i : ℕ) → i < n → get_or ws (a + i) 0 ≡ get_or vs (b + i) 0) → words_from ws a n ≡ words_from vs b n
unfolding words_from
words-alike ws vs a b zero f = refl
words-alike ws vs a b (suc n) f =
    let here : get_or ws a 0 ≡ get_or vs b 0 = simp add-zero at (f 0 (omega arith)) in
    ap₂ (λ (x : ℕ) (xs : List ℕ). x ∷ xs) here
    (words-alike ws vs (suc a) (suc b) n (λ i h. simp (suc-add, ← add-suc) (f (suc i) (omega arith))))

-- an entry that stands whole is read from its own words
module _ (ws : List ℕ) (n : ℕ) (room : n * node_words + node_words ≤ length ws) where
  abbrev node-words : List ℕ
  node-words = part ws (n * node_words) node_words

  node-word : (i : ℕ) → i < node_words → get_or ws (n * node_words + i) 0 ≡ get_or node-words i 0
  node-word i h = sym (part_at ws (n * node_words) node_words i h)

  node_by : (c : ℕ) (b : Bool) → get_or node-words count_at 0 ≡ c → leb c child_limit ≡ b →
      only_if {A = Node} b (some (record { op = get_or ws (n * node_words) 0; kids = words_from ws (n * node_words + children_at) c }))
      ≡ only_if {A = Node} b (some (record { op = get_or node-words 0 0; kids = words_from node-words children_at c }))
  node_by c false e p = refl
  node_by c true e p =
      let o : get_or ws (n * node_words) 0 ≡ get_or node-words 0 0 = simp add-zero at (node-word 0 (omega arith)) in
      let k : words_from ws (n * node_words + children_at) c ≡ words_from node-words children_at c =
      words-alike ws node-words (n * node_words + children_at) children_at c
      (λ i h. ap (λ (j : ℕ). get_or ws j 0) (omega arith) ∙ node-word (children_at + i) (omega (arith, leb-true c child_limit p))) in
      ap some (ap₂ both o k)
    where
      both : ℕ → List ℕ → Node
      both x xs = record { op = x; kids = xs }

  pub node-slot : node_entry ws n ≡ node_entry (part ws (n * node_words) node_words) 0
  unfolding node_entry node_at
  node-slot =
      let l = length_part ws (n * node_words) node_words room in
      rw (le-leb (n * node_words + node_words) (length ws) room, node-word count_at (omega arith), le-leb node_words (length node-words) (omega (arith, l)))
      (node_by (get_or node-words count_at 0) (leb (get_or node-words count_at 0) child_limit) refl refl)

module _ (ws : List ℕ) (age : ℕ) (room : age * connection_words + connection_words ≤ length ws) where
  abbrev connection-words : List ℕ
  connection-words = part ws (age * connection_words) connection_words

  connection-word : (i : ℕ) → i < connection_words → get_or ws (age * connection_words + i) 0 ≡ get_or connection-words i 0
  connection-word i h = sym (part_at ws (age * connection_words) connection_words i h)

  pub connection-slot : connection_entry ws age ≡ connection_entry (part ws (age * connection_words) connection_words) 0
  unfolding connection_entry
  connection-slot =
      let l = length_part ws (age * connection_words) connection_words room in
      let c : get_or ws (age * connection_words) 0 ≡ get_or connection-words 0 0 = simp add-zero at (connection-word 0 (omega arith)) in
      rw (
        le-leb (age * connection_words + connection_words) (length ws) room,
        c,
        connection-word next_at (omega arith),
        connection-word why_at (omega arith),
        connection-word by_rule_at (omega arith),
        connection-word forward_at (omega arith),
        le-leb connection_words (length connection-words) (omega (arith, l)),
      )
      refl

-- the first k entries are the same where their words are
slots-within : (i k size : ℕ) → i < k → i * size + size ≤ k * size
slots-within i k size h =
    let e : suc i * size ≡ i * size + size = suc-mul i size in
    omega (arith, e, mul-le-mul_right size h)

module _ (ws vs : List ℕ) (k size : ℕ) (front : take (k * size) ws ≡ take (k * size) vs) (here : k * size ≤ length ws) (there : k * size ≤ length vs) where
  pub slot_kept : (i : ℕ) → i < k → part ws (i * size) size ≡ part vs (i * size) size
  slot_kept i h =
      let within : i * size + size ≤ k * size = slots-within i k size h in
      same-part ws vs (i * size) (i * size) size (omega arith) (omega arith)
      (λ j q.
      sym (get_or-take (k * size) ws (i * size + j) 0 (omega arith))
      ∙ ap (λ (l : List ℕ). get_or l (i * size + j) 0) front
      ∙ get_or-take (k * size) vs (i * size + j) 0 (omega arith))

module _ (ws vs : List ℕ) (k : ℕ) where
  pub nodes-front : take (k * node_words) ws ≡ take (k * node_words) vs → k * node_words ≤ length ws → k * node_words ≤ length vs →
      nodes_to ws k ≡ nodes_to vs k
  nodes-front e h g =
      entries-same add_node [] (node_entry ws) (node_entry vs) k
      (λ i q.
      node-slot ws i (omega arith)
      ∙ ap (λ (l : List ℕ). node_entry l 0) (slot_kept ws vs k node_words e h g i q)
      ∙ sym (node-slot vs i (omega arith)))

  pub connections-front : (ns : List Node) → take (k * connection_words) ws ≡ take (k * connection_words) vs →
      k * connection_words ≤ length ws → k * connection_words ≤ length vs → connections_to ns ws k ≡ connections_to ns vs k
  connections-front ns e h g =
      entries-same (add_connection ns) [] (connection_entry ws) (connection_entry vs) k
      (λ i q.
      connection-slot ws i (omega arith)
      ∙ ap (λ (l : List ℕ). connection_entry l 0) (slot_kept ws vs k connection_words e h g i q)
      ∙ sym (connection-slot vs i (omega arith)))
