-- The Rust's forest of an accepted table: every `union` succeeds, and what each node and the memo hold then.
use Prim.Native.Nat.{ℕ, zero, suc, ◌<◌}
use mathlib.Core.Path.{◌≡◌, refl, sym, ap, ◌∙◌}
use mathlib.Core.Bool.{cond}
use mathlib.Core.List.{List, [], ◌∷◌, ◌++◌}
use mathlib.Core.Option.{some}
use native.Mathlib.Omega.{arith}
use native.Mathlib.Decide.{ℕ_discrete}
use borrow.Author.Tests.{eq-eqb, ne_eqb}
use lib.Dec.{eqb}
use lib.ListN.{length, set, get_elem?, length-set}
use Rattle.model.specs.declared.Connection.{Connection as TableConnection}
use Rattle.model.specs.Node.{Node}
use Rattle.model.specs.Forest.{cur, nxt, root, Parent, top, below, parent_of}
use Rattle.paths.specs.Hangs.{AcceptedConnections, Sound}
use Rattle.paths.proofs.Accept.{sound}
use Rattle.rust.specs.Panics.{counted}
use Rattle.rust.specs.Explain.{Connection, ExplainNode, Memoed, Explain, alone}
use Rattle.rust.specs.Explain.{make_leader, push_neighbor, set_parent, remember, union, justified, goes_forward, explain_of}
use Rattle.rust.specs.Read.{up, down}
use Rattle.rust.proofs.Vectors.{on, set_same, set_other, counted-length, counted-at}

-- what a node holds
abbrev parent_by : Parent → ℕ → Connection
parent_by top n = (alone n).parent
parent_by (below c o) n = up c

unfoldable pub parent_in : List TableConnection → ℕ → Connection
unfolding parent_of
parent_in cs n = parent_by (parent_of cs n) n

unfoldable pub neighbors_in : List TableConnection → ℕ → List Connection
neighbors_in [] n = []
neighbors_in (c ∷ cs) n =
    cond (eqb n (cur c)) (neighbors_in cs n ++ (up c ∷ []))
    (cond (eqb n (nxt c)) (neighbors_in cs n ++ (down c ∷ [])) (neighbors_in cs n))

abbrev pub node_in : List TableConnection → ℕ → ExplainNode
node_in cs n = record { neighbors = neighbors_in cs n; parent = parent_in cs n }

-- what the memo holds
abbrev pub memo_in : List TableConnection → List Memoed
memo_in [] = []
memo_in (c ∷ cs) = remember (justified c.why) (cur c) (nxt c) (memo_in cs)

pub record Holds (ns : List Node) (cs : List TableConnection) (e : Explain) : Type 0 where
  pub size : length e.explainfind ≡ length ns
  pub at : (n : ℕ) → n < length ns → get_elem? e.explainfind n ≡ some (node_in cs n)
  pub memo : e.memo ≡ memo_in cs

pub record Built (rounds : ℕ) (ns : List Node) (cs : List TableConnection) : Type 0 where
  pub explain : Explain
  pub is : explain_of rounds ns cs ≡ some explain
  pub holds : Holds ns cs explain

alone-in : (n : ℕ) → some (alone n) ≡ some (node_in [] n)
unfolding neighbors_in parent_in parent_of
alone-in n = refl

-- a connection hung: three elements are set
module _ (ns : List Node) (c : TableConnection) (cs : List TableConnection) (e : Explain) (s : Sound ns cs c) (h : Holds ns cs e) where
  abbrev begun : ExplainNode
  begun = record { neighbors = neighbors_in cs (cur c) ++ (up c ∷ []); parent = parent_in cs (cur c) }

  abbrev other : ExplainNode
  other = record { neighbors = neighbors_in cs (nxt c) ++ (down c ∷ []); parent = parent_in cs (nxt c) }

  abbrev done : ExplainNode
  done = record { neighbors = neighbors_in cs (cur c) ++ (up c ∷ []); parent = up c }

  abbrev one : List ExplainNode
  one = set e.explainfind (cur c) begun

  abbrev both : List ExplainNode
  both = set one (nxt c) other

  abbrev hung : List ExplainNode
  hung = set both (cur c) done

  apart : nxt c ≡ cur c → ⊥
  apart q = s.hangs.apart (ap (root cs) (sym q))

  leads : (rounds : ℕ) → make_leader (suc rounds) e.explainfind (cur c) ≡ some e.explainfind
  unfolding make_leader parent_in
  leads rounds = rw (h.at (cur c) s.current-in, s.hangs.free, eq-eqb (cur c) (cur c) refl) refl

  first : push_neighbor e.explainfind (cur c) (up c) ≡ some one
  first = on _ (h.at (cur c) s.current-in)

  second : push_neighbor one (nxt c) (down c) ≡ some both
  second = on _ (set_other e.explainfind (cur c) (nxt c) begun apart ∙ h.at (nxt c) s.next-in)

  third : set_parent both (cur c) (up c) ≡ some hung
  third = on _ (set_other one (nxt c) (cur c) other (λ q. apart (sym q)) ∙ set_same e.explainfind (cur c) begun (omega (arith, s.current-in, h.size)))

  long : length hung ≡ length ns
  long = length-set both (cur c) done ∙ length-set one (nxt c) other ∙ length-set e.explainfind (cur c) begun ∙ h.size

  at-current : some done ≡ some (node_in (c ∷ cs) (cur c))
  unfolding neighbors_in parent_in
  at-current = rw (eq-eqb (cur c) (cur c) refl) refl

  at_next : some other ≡ some (node_in (c ∷ cs) (nxt c))
  unfolding neighbors_in parent_in
  at_next = rw (ne_eqb (nxt c) (cur c) apart, eq-eqb (nxt c) (nxt c) refl) refl

  at_rest : (n : ℕ) → (n ≡ cur c → ⊥) → (n ≡ nxt c → ⊥) → some (node_in cs n) ≡ some (node_in (c ∷ cs) n)
  unfolding neighbors_in parent_in
  at_rest n q r = rw (ne_eqb n (cur c) q, ne_eqb n (nxt c) r) refl

  hung-at : (n : ℕ) → n < length ns → get_elem? hung n ≡ some (node_in (c ∷ cs) n)
  hung-at n k =
      elim (ℕ_discrete n (cur c)) [
        | yes q ↦
            let u : cur c < length both =
            omega (arith, s.current-in, h.size, length-set one (nxt c) other, length-set e.explainfind (cur c) begun) in
            rw q (set_same both (cur c) done u ∙ at-current)
        | no q ↦ elim (ℕ_discrete n (nxt c)) [
          | yes r ↦ rw r (set_other both (cur c) (nxt c) done apart
              ∙ set_same one (nxt c) other (omega (arith, s.next-in, h.size, length-set e.explainfind (cur c) begun)) ∙ at_next)
          | no r ↦ set_other both (cur c) n done q ∙ set_other one (nxt c) n other r ∙ set_other e.explainfind (cur c) n begun q ∙ h.at n k ∙ at_rest n q r
        ]
      ]

  hung-union : (rounds : ℕ) → union (suc rounds) e (cur c) (nxt c) (justified c.why) (goes_forward c.why)
      ≡ some (record { explainfind = hung; memo = remember (justified c.why) (cur c) (nxt c) e.memo })
  unfolding union
  hung-union rounds = on _ (leads rounds) ∙ on _ first ∙ on _ second ∙ on _ third

built-more : (rounds : ℕ) (ns : List Node) (cs : List TableConnection) → AcceptedConnections ns cs → Built (suc rounds) ns cs
unfolding explain_of
built-more rounds ns [] a =
    record {
      explain = record { explainfind = counted alone (length ns); memo = [] };
      is = refl;
      holds = record { size = counted-length alone (length ns); at = λ n h. counted-at alone (length ns) n h ∙ alone-in n; memo = refl };
    }
built-more rounds ns (c ∷ cs) a =
    let b = built-more rounds ns cs a.1 in
    let s = sound a.0 in
    record {
      explain = record { explainfind = hung ns c cs b.explain s b.holds; memo = remember (justified c.why) (cur c) (nxt c) b.explain.memo };
      is = on _ b.is ∙ hung-union ns c cs b.explain s b.holds rounds;
      holds = record {
        size = long ns c cs b.explain s b.holds;
        at = hung-at ns c cs b.explain s b.holds;
        memo = ap (remember (justified c.why) (cur c) (nxt c)) b.holds.memo;
      };
    }

pub built : (rounds : ℕ) (ns : List Node) (cs : List TableConnection) → AcceptedConnections ns cs → 0 < rounds → Built rounds ns cs
built zero ns cs a h = absurd (omega arith)
built (suc rounds) ns cs a h = built-more rounds ns cs a
