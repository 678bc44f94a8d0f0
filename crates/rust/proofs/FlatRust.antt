-- The Rust's tree of proofs between two joined nodes, flattened, is document 01's flat proof.
use Prim.Native.Nat.{ℕ, zero, suc, ◌*◌, ◌≤◌, ◌<◌}
use mathlib.Core.Path.{◌≡◌, refl, sym, ap, ◌∙◌}
use mathlib.Core.Bool.{true, false}
use mathlib.Core.List.{List, [], ◌∷◌, ◌++◌, map, map-append, append_assoc, append-nil}
use mathlib.Core.Option.{Option, none, some}
use native.Mathlib.Omega.{arith}
use lib.ListN.{length}
use Rattle.model.specs.declared.Connection.{Connection as TableConnection}
use Rattle.model.specs.Term.{Terms, no_terms, join, one, strip}
use Rattle.model.specs.Node.{Node, op_of, term_of}
use Rattle.model.specs.Forest.{cur, nxt, root, Hop, path}
use Rattle.model.specs.Flat.{later_step, later, flat_proof}
use Rattle.terms.proofs.Rows.{join-assoc, join-none}
use Rattle.paths.specs.Hangs.{AcceptedConnections}
use Rattle.paths.proofs.Accept.{accepted-loose, sound}
use Rattle.paths.proofs.Climbed.{hop_of}
use Rattle.flat.specs.Ends.{last_or, last, Leads}
use Rattle.flat.specs.Nodes.{AcceptedNodes}
use Rattle.flat.proofs.NodeTerms.{term-strip}
use Rattle.flat.proofs.Within.{last-join, last-alike, leads-join}
use Rattle.flat.proofs.Twins.{twins, twins-back}
use Rattle.flat.proofs.Walked.{walked}
use Rattle.flat.proofs.Way.{way_up, way_down}
use Rattle.rust.specs.Explain.{Connection, Explain}
use Rattle.rust.specs.Flatten.{Trees, no_trees, tree_term, flatten_proof}
use Rattle.rust.specs.Trees.{TreeTerm, before, explain_adjacent, explain_all, explain_enodes}
use Rattle.rust.proofs.Vectors.{on, off}
use Rattle.rust.specs.Read.{as_walked}
use Rattle.rust.proofs.Built.{Holds}
use Rattle.rust.proofs.Behind.{Behind, all, older, accepted-behind, root-behind, walk-behind}
use Rattle.rust.proofs.MemoRust.{optimized, no-optimized}
use Rattle.rust.proofs.Flats.{flats}
use Rattle.rust.proofs.NodeTrees.{planted, planted-flat, plain-term}
use Rattle.rust.proofs.Adjacent.{Explained, Adjoins, adjoins-up, adjoins-down}

-- one explanation behind another
unfoldable followed : Trees → Trees → Trees
followed no_trees g = g
followed (tree_term o b f k s) g = tree_term o b f k (followed s g)

followed-assoc : (f g h : Trees) → followed (followed f g) h ≡ followed f (followed g h)
unfolding followed
followed-assoc no_trees g h = refl
followed-assoc (tree_term o b f k s) g h = ap (tree_term o b f k) (followed-assoc s g h)

followed-none : (f : Trees) → followed f no_trees ≡ f
unfolding followed
followed-none no_trees = refl
followed-none (tree_term o b f k s) = ap (tree_term o b f k) (followed-none s)

-- a walk of hops from node l to node r appends the terms f
module _ (ns : List Node) (adjacent : Connection → Option TreeTerm) where
  record Appends (l r : ℕ) (hs : List Hop) (f : Terms) : Type 0 where
    leads : Leads ns l r f
    trees : Trees
    is : (rest : List Connection) (us : Trees) → explain_all adjacent rest ≡ some us → explain_all adjacent (map as_walked hs ++ rest) ≡ some (followed trees us)
    folds : (sofar : Terms) → strip (last sofar) ≡ one (term_of ns l) → (rest : Trees) →
        flatten_proof (followed trees rest) (flats sofar) ≡ flatten_proof rest (flats (join sofar f))

  arrived : (l m : ℕ) (f sofar : Terms) → Leads ns l m f → strip (last sofar) ≡ one (term_of ns l) → strip (last (join sofar f)) ≡ one (term_of ns m)
  unfolding last
  arrived l m f sofar v q =
      ap strip (last-join no_terms sofar f)
      ∙ last-alike (last sofar) (one (term_of ns l)) f (q ∙ sym (term-strip ns l))
      ∙ v
      ∙ term-strip ns m

  appends-none : (n : ℕ) → Appends n n [] no_terms
  unfolding followed last_or
  appends-none n =
      record {
        leads = refl;
        trees = no_trees;
        is = λ rest us p. p;
        folds = λ sofar q rest. ap (λ (x : Terms). flatten_proof rest (flats x)) (sym (join-none sofar));
      }

  appends-two : (l m r : ℕ) (xs ys : List Hop) (f g : Terms) → Appends l m xs f → Appends m r ys g → Appends l r (xs ++ ys) (join f g)
  appends-two l m r xs ys f g v w =
      record {
        leads = leads-join ns l m r f g v.leads w.leads;
        trees = followed v.trees w.trees;
        is = λ rest us p.
            ap (λ (x : List Connection). explain_all adjacent (x ++ rest)) (map-append as_walked xs ys)
            ∙ ap (explain_all adjacent) (append_assoc (map as_walked xs) (map as_walked ys) rest)
            ∙ v.is (map as_walked ys ++ rest) (followed w.trees us) (w.is rest us p)
            ∙ ap some (sym (followed-assoc v.trees w.trees us));
        folds = λ sofar q rest.
            ap (λ (x : Trees). flatten_proof x (flats sofar)) (followed-assoc v.trees w.trees rest)
            ∙ v.folds sofar q (followed w.trees rest)
            ∙ w.folds (join sofar f) (arrived l m f sofar v.leads q) rest
            ∙ ap (λ (x : Terms). flatten_proof rest (flats x)) (join-assoc sofar f g);
      }

  appends-one : (nodes : AcceptedNodes ns) (l r : ℕ) (h : Hop) (f : Terms) → Leads ns l r f → Adjoins nodes l f (adjacent (as_walked h)) → Appends l r (h ∷ []) f
  unfolding explain_all followed
  appends-one nodes l r h f v a =
      record {
        leads = v;
        trees = before a.tree no_trees;
        is = λ rest us p. on _ a.is ∙ on _ p;
        folds = a.folds;
      }

module _ {ns : List Node} {cs : List TableConnection} {ex : Explain} (nodes : AcceptedNodes ns) (acc : AcceptedConnections ns cs) (held : Holds ns cs ex)
    (rounds : ℕ) (enough : 2 * length cs < rounds) (room : length ns ≤ rounds) where
  abbrev Known : ℕ → Type 0
  Known nesting = (os : List TableConnection) → Behind os cs → length os < nesting → (l r : ℕ) → l < length ns → r < length ns → root os l ≡ root os r →
      Explained ns os l r (explain_enodes nesting rounds ns ex l r)

  record Within (nesting : ℕ) (os : List TableConnection) : Type 0 where
    accepted : AcceptedConnections ns os
    behind : Behind os cs
    few : length os ≤ nesting

  module _ (nesting : ℕ) (known : Known nesting) where
    abbrev enodes : ℕ → ℕ → Option Trees
    enodes = explain_enodes nesting rounds ns ex

    abbrev adj : Connection → Option TreeTerm
    adj = explain_adjacent enodes rounds ns

    own-up : (c : TableConnection) (os : List TableConnection) → Within nesting (c ∷ os) →
        Appends ns adj (cur c) (nxt c) (record { conn = c; up = true } ∷ []) (later_step ns os (later ns os) c true)
    own-up c os k =
        let s = sound k.accepted.0 in
        appends-one ns adj nodes (cur c) (nxt c) (record { conn = c; up = true }) (later_step ns os (later ns os) c true)
        (way_up ns nodes c os k.accepted).arrives
        (adjoins-up nodes os k.accepted.1 enodes (known os (older k.behind) (omega (arith, k.few))) rounds room
        (cur c) (nxt c) s.current-in s.next-in c.why (twins k.accepted))

    own-down : (c : TableConnection) (os : List TableConnection) → Within nesting (c ∷ os) →
        Appends ns adj (nxt c) (cur c) (record { conn = c; up = false } ∷ []) (later_step ns os (later ns os) c false)
    own-down c os k =
        let s = sound k.accepted.0 in
        appends-one ns adj nodes (nxt c) (cur c) (record { conn = c; up = false }) (later_step ns os (later ns os) c false)
        (way_down ns nodes c os k.accepted).arrives
        (adjoins-down nodes os k.accepted.1 enodes (known os (older k.behind) (omega (arith, k.few))) rounds room
        (nxt c) (cur c) s.next-in s.current-in c.why (twins-back k.accepted))

    appends : (os : List TableConnection) → Within nesting os → (l r : ℕ) → root os l ≡ root os r → Appends ns adj l r (path os l r) (later ns os l r)
    unfolding path later
    appends =
        walked [] ◌++◌ hop_of no_terms join (later_step ns) (Appends ns adj) (appends-none ns adj) (appends-two ns adj) (Within nesting)
        (λ c os k. record { accepted = k.accepted.1; behind = older k.behind; few = omega (arith, k.few) })
        (λ os k. accepted-loose ns os k.accepted)
        (λ c os k _. own-up c os k)
        (λ c os k _. own-down c os k)

    explained : (os : List TableConnection) → Behind os cs → length os ≤ nesting → (l r : ℕ) → l < length ns → r < length ns → root os l ≡ root os r →
        Explained ns os l r (explain_enodes (suc nesting) rounds ns ex l r)
    unfolding explain_enodes explain_all flatten_proof flat_proof path join last last_or
    explained os b few l r l-in r-in same =
        let t = term_of ns l in
        let p = planted ns nodes rounds l (omega arith) l-in in
        let w = optimized acc held rounds enough l r l-in r-in (root-behind l r b same) in
        let k : Within nesting os = record { accepted = accepted-behind ns b acc; behind = b; few = few } in
        let a = appends os k l r same in
        let alone : TreeTerm = record { op = op_of ns l; backward = none; forward = none; child_proofs = p.proofs } in
        record {
          trees = before alone a.trees;
          is = on _ p.is ∙ on _ w.is
              ∙ on _ (ap (explain_all adj) (w.same ∙ ap (map as_walked) (walk-behind [] ◌++◌ hop_of l r b same) ∙ sym (append-nil (map as_walked (path os l r))))
              ∙ a.is [] no_trees refl ∙ ap some (followed-none a.trees));
          flat = on _ p.children ∙ on _ (planted-flat ns nodes l none none)
              ∙ ap (flatten_proof a.trees) (plain-term ns nodes l)
              ∙ ap (λ (x : Trees). flatten_proof x (flats (one t))) (sym (followed-none a.trees))
              ∙ a.folds (one t) (term-strip ns l) no_trees;
        }

  known-all : (nesting : ℕ) → Known nesting
  known-all zero os b few l r l-in r-in same = absurd (omega arith)
  known-all (suc nesting) os b few l r l-in r-in same = explained nesting (known-all nesting) os b (omega arith) l r l-in r-in same

  -- THE RUST'S FLAT PROOF, nested as deep as there are connections and one, is document 01's
  pub flat-is : (nesting : ℕ) → length cs < nesting → (l r : ℕ) → l < length ns → r < length ns → root cs l ≡ root cs r →
      Explained ns cs l r (explain_enodes nesting rounds ns ex l r)
  flat-is nesting h l r l-in r-in same = known-all nesting cs all h l r l-in r-in same

  -- and there is none where document 01 says 9
  pub no-flat : (nesting l r : ℕ) → l < length ns → r < length ns → (root cs l ≡ root cs r → ⊥) → explain_enodes nesting rounds ns ex l r ≡ none
  unfolding explain_enodes
  no-flat zero l r l-in r-in apart = refl
  no-flat (suc nesting) l r l-in r-in apart =
      on _ (planted ns nodes rounds l (omega arith) l-in).is ∙ off _ (no-optimized acc held rounds enough l r l-in r-in apart)
