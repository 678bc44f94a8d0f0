-- The congruence writer's loop: the children before are the right node's already, those behind still the left node's.
use Prim.Native.Nat.{ℕ, suc, ◌+◌, ◌*◌, ◌≤◌, ◌<◌}
use mathlib.Core.List.{List, [], ◌∷◌, ◌++◌, append_assoc, append-nil}
use mathlib.Core.Path.{◌≡◌, refl, sym, ap, ap₂, subst, subst₂, ◌∙◌}
use native.Mathlib.Omega.{arith}
use lib.ListN.{length, get_or, length-append}
use Rattle.model.specs.declared.NodeNo.{NodeNo}
use Rattle.model.specs.Limits.{distance_limit, word_limit, flat_words}
use Rattle.model.specs.Node.{Node, op_of, kids_of, row, term_of}
use Rattle.model.specs.Term.{Term, Terms, no_terms, one, words, count, join}
use Rattle.model.specs.Tables.{children_at, node_words, words_from}
use Rattle.model.specs.Flat.{within, runs, later}
use Rattle.entries.specs.Connections.{oldest}
use Rattle.entries.specs.Nodes.{count_in, nodes_of}
use Rattle.entries.proofs.Children.{left, left-all, length-words as words_long}
use Rattle.entries.proofs.Nodes.{children-in}
use Rattle.costs.specs.Costs.{nodes_in}
use Rattle.terms.proofs.Rows.{count-join, words-join, join-assoc, join-none, put-words, length-words}
use Rattle.flat.specs.Ends.{Leads}
use Rattle.flat.specs.Nodes.{AcceptedNodes}
use Rattle.flat.proofs.NodeTerms.{row_count, term_is, term-size}
use Rattle.flat.proofs.Within.{within_count}
use Rattle.trees.specs.Area.{bare, around}
use Rattle.trees.specs.Sizes.{Sized}
use Rattle.trees.specs.declared.Spot.{Spot}
use Rattle.trees.proofs.Around.{around-join, around-within}
use Rattle.trees.proofs.Bare.{whole_words, bare-term, bare-terms}
use Rattle.writer.specs.Appends.{term_words, twin_terms}
use Rattle.writer.specs.Written.{post_of, pre_of, Ran, Wrote}
use Rattle.writer.proofs.Part.{Part, Whole, part_end, part-long, part-ran, part-stands}
use Rattle.writer.proofs.Stands.{Stands, Plain, plain-append, ran-long, ran-none}

-- the size of a tree that stands in the area is exact
pub exact : {ns : List Node} {sizes : List ℕ} {n : ℕ} → Sized ns sizes n → (a : ℕ) → a < n → length (term_words ns a) ≤ word_limit →
    flat_words * get_or sizes a 0 ≡ length (term_words ns a)
exact {ns} k a h l = omega (arith, k.each a h, length-words (one (term_of ns a)), term-size ns a)

plain-root : (o n : ℕ) {ws : List ℕ} → Plain ws → Plain (o ∷ n ∷ 0 ∷ 0 ∷ ws)
unfolding bare
plain-root o n k = record { whole = omega (arith, k.whole); is = ap (λ (l : List ℕ). o ∷ n ∷ 0 ∷ 0 ∷ l) k.is }

-- the root, with n children, and those before
abbrev root_of : ℕ → ℕ → Terms → List ℕ
root_of o n before = o ∷ n ∷ 0 ∷ 0 ∷ words before

-- a spot, and a child behind it, within what stands before `end`
pub record Fits (place post end child back all : ℕ) : Type 0 where
  pub place_in : place ≤ end
  pub post_in : post ≤ end
  pub child-in : child + back ≤ post
  pub end-in : end ≤ all

module _ (ns : List Node) (proof : ℕ → ℕ → Terms) (o n : ℕ) (f : Terms) (p q area : List ℕ) (start : ℕ) where
  -- the pairs xs and ys are still to come
  pub record Rewriting (xs ys now : List ℕ) (place post end : ℕ) : Type 0 where
    pub before : Terms
    pub plain : Plain (words before)
    pub counted : count before + length xs ≡ n
    pub done : Terms
    pub ran : Ran p q area start done now end
    pub stands : Stands now end (p ++ (root_of o n before ++ (words (row (term_of ns) xs) ++ q)))
    pub whole : join done (runs ns proof o before xs ys) ≡ f
    pub place_is : place ≡ length p + (flat_words + length (words before))
    pub post_is : post ≡ length (words (row (term_of ns) xs)) + length q

module _ {ns : List Node} {proof : ℕ → ℕ → Terms} {o n : ℕ} {f : Terms} {p q area : List ℕ} {start : ℕ} where
  -- at the start all pairs are: the left node's term stands there
  pub children-none : AcceptedNodes ns → (a : ℕ) → op_of ns a ≡ o → length (kids_of ns a) ≡ n → (ys : List ℕ) → runs ns proof o no_terms (kids_of ns a) ys ≡ f →
      Stands area start (p ++ (term_words ns a ++ q)) → {place post : ℕ} → place ≡ length p + flat_words → post + flat_words ≡ length (term_words ns a) + length q →
      Rewriting ns proof o n f p q area start (kids_of ns a) ys area place post start
  unfolding words count join bare
  children-none nodes a e c ys w s i j =
      let kids = row (term_of ns) (kids_of ns a) in
      let t : term_words ns a ≡ root_of o n no_terms ++ words kids =
      ap (λ (x : Term). words (one x)) (term_is ns nodes a)
      ∙ ap₂ (λ (x y : ℕ). x ∷ y ∷ 0 ∷ 0 ∷ (words kids ++ [])) e (row_count (term_of ns) (kids_of ns a) ∙ c)
      ∙ ap (λ (l : List ℕ). o ∷ n ∷ 0 ∷ 0 ∷ l) (append-nil (words kids)) in
      record {
        before = no_terms;
        plain = record { whole = refl; is = refl };
        counted = omega arith;
        done = no_terms;
        ran = ran-none p q area start;
        stands = subst (λ (l : List ℕ). Stands area start (p ++ (l ++ q))) t s;
        whole = w;
        place_is = omega arith;
        post_is = omega (arith, ap length t);
      }

  -- the area is as long as before
  pub children-long : {xs ys now : List ℕ} {place post end : ℕ} → Rewriting ns proof o n f p q area start xs ys now place post end → Whole p q area start f → length now ≡ length area
  children-long {xs} {ys} k w =
      let rest = runs ns proof o k.before xs ys in
      let room = w.room in
      ran-long k.ran
      (omega (
        arith,
        ap (λ (x : Terms). length (around p q x)) (sym k.whole) ∙ ap length (around-join p q k.done rest),
        length-append (around p q k.done) (around p q rest),
      ))

  pub children-all : {xs ys now : List ℕ} {place post end : ℕ} → xs ≡ [] → Rewriting ns proof o n f p q area start xs ys now place post end → Ran p q area start f now end
  unfolding runs
  children-all {xs} {ys} {now = now} {end = end} e k =
      let none : runs ns proof o k.before xs ys ≡ no_terms = rw e refl in
      subst (λ (g : Terms). Ran p q area start g now end) (sym (join-none k.done) ∙ ap (join k.done) (sym none) ∙ k.whole) k.ran

  module _ {x y : ℕ} {xs ys now : List ℕ} {place post end : ℕ} (k : Rewriting ns proof o n f p q area start (x ∷ xs) (y ∷ ys) now place post end) where
    abbrev behind : Terms
    behind = row (term_of ns) xs

    abbrev inner : List ℕ
    inner = p ++ root_of o n k.before

    abbrev outer : List ℕ
    outer = words behind ++ q

    abbrev run : Terms
    run = within o k.before behind (proof x y)

    row_words : words (row (term_of ns) (x ∷ xs)) ≡ term_words ns x ++ words behind
    unfolding row
    row_words = put-words (term_of ns x) behind

    child-stands : Stands now end (inner ++ (term_words ns x ++ outer))
    child-stands =
        subst (Stands now end)
        (ap (λ (l : List ℕ). p ++ (root_of o n k.before ++ (l ++ q))) row_words
        ∙ ap (λ (l : List ℕ). p ++ (root_of o n k.before ++ l)) (append_assoc (term_words ns x) (words behind) q)
        ∙ sym (append_assoc p (root_of o n k.before) (term_words ns x ++ outer)))
        k.stands

    -- the spot is within what stands, and a child's words are among those behind it
    pub child_fits : Fits place post end (length (term_words ns x)) (length q) (length now)
    child_fits =
        let s = child-stands in
        let lp = length-append p (root_of o n k.before) in
        let lw = length-append (words behind) q in
        let lr = ap length row_words ∙ length-append (term_words ns x) (words behind) in
        let place = k.place_is in
        let post = k.post_is in
        let all = s.long in
        let both = length-append inner (term_words ns x ++ outer) in
        let rest = length-append (term_words ns x) outer in
        record { place_in = omega arith; post_in = omega arith; child-in = omega arith; end-in = s.fits }

    around-child : around inner outer (proof x y) ≡ around p q run
    around-child =
        let c : n ≡ count k.before + suc (count behind) = omega (arith, k.counted, row_count (term_of ns) xs) in
        ap (λ (m : ℕ). around (p ++ root_of o m k.before) outer (proof x y)) c ∙ sym (around-within p q o k.before behind (proof x y))

    module _ (a : Plain p) (b : Plain q) (s : Spot) (at : s.place ≡ place) (left : s.post + length (term_words ns x) ≡ post) (up : s.end ≡ end) where
      pub child-part : Part p q area start f now s inner (term_words ns x) outer run (proof x y)
      unfolding runs
      child-part =
          record {
            done = k.done;
            rest = runs ns proof o (join k.before (one (term_of ns y))) xs ys;
            ran = rw up k.ran;
            whole = k.whole;
            stands = rw up child-stands;
            place_is = omega (arith, length-append p (root_of o n k.before), k.place_is);
            post_is = omega (arith, length-append (words behind) q, k.post_is, ap length row_words, length-append (term_words ns x) (words behind));
            pre-plain = plain-append a (plain-root o n k.plain);
            here = whole_words (one (term_of ns x));
            post-plain = plain-append (record { whole = whole_words behind; is = bare-terms ns xs }) b;
            same = around-child;
          }

      pub child-few : (used : ℕ) → used + count f ≤ distance_limit → used + count (proof x y) ≤ distance_limit
      unfolding runs
      child-few used c =
          let rest = runs ns proof o (join k.before (one (term_of ns y))) xs ys in
          omega (arith, ap count k.whole, count-join k.done (join run rest), count-join run rest, within_count o k.before behind (proof x y))

      module _ (w : Whole p q area start f) {after : List ℕ} {r : ℕ} (d : Wrote now s (term_words ns x) (proof x y) after r)
          (leads : Leads ns x y (proof x y)) where
        new-words : words (join k.before (one (term_of ns y))) ≡ words k.before ++ term_words ns y
        new-words = words-join k.before (one (term_of ns y))

        pub child-next : (new : ℕ) → new ≡ place + length (term_words ns y) → Rewriting ns proof o n f p q area start xs ys after new s.post r
        unfolding runs count child-part
        child-next new e =
            let t = join k.before (one (term_of ns y)) in
            let l = ap length new-words ∙ length-append (words k.before) (term_words ns y) in
            record {
              before = t;
              plain = rw new-words (plain-append k.plain (record { whole = whole_words (one (term_of ns y)); is = bare-term ns y }));
              counted = omega (arith, count-join k.before (one (term_of ns y)), k.counted);
              done = join k.done run;
              ran = part-ran child-part w d;
              stands = subst (Stands after r)
                  (append_assoc p (root_of o n k.before) (term_words ns y ++ outer)
                  ∙ ap (λ (m : List ℕ). p ++ (o ∷ n ∷ 0 ∷ 0 ∷ m)) (sym (append_assoc (words k.before) (term_words ns y) outer) ∙ ap (λ (m : List ℕ). m ++ outer) (sym new-words)))
                  (part-stands child-part w d ns x y refl leads);
              whole = join-assoc k.done run (runs ns proof o t xs ys) ∙ k.whole;
              place_is = omega (arith, k.place_is, l);
              post_is = omega (arith, k.post_is, ap length row_words, length-append (term_words ns x) (words behind));
            }

        -- the new child's words are among those that stand then
        pub child-fits-after : length (term_words ns y) ≤ length area
        child-fits-after =
            let t = part-stands child-part w d ns x y refl leads in
            omega (arith, t.long, part_end child-part w d, part-long child-part w, length-append inner (term_words ns y ++ outer), length-append (term_words ns y) outer)

-- What a congruence writer starts with: no child is rewritten yet.
pub twin-start : (nodes conns : List ℕ) (age a b n : ℕ) → AcceptedNodes (nodes_of nodes) → a < nodes_in nodes → b < nodes_in nodes →
    n ≡ count_in nodes a → n ≡ count_in nodes b → {p q area : List ℕ} {start place post : ℕ} →
    let ns = nodes_of nodes in
    Stands area start (p ++ (term_words ns a ++ q)) → place ≡ length p + flat_words → post + flat_words ≡ length (term_words ns a) + length q →
    Rewriting ns (later ns (oldest age conns)) (op_of ns a) n (twin_terms ns conns age a b) p q area start
    (left nodes (a * node_words + children_at) n 0) (left nodes (b * node_words + children_at) n 0) area place post start
unfolding twin_terms
twin-start nodes conns age a b n ok ha hb ea eb {p} {q} {area} {start} {place} {post} s i j =
    let ns = nodes_of nodes in
    let xs : kids_of ns a ≡ words_from nodes (a * node_words + children_at) n =
    children-in (nodes_in nodes) nodes a ha ∙ ap (words_from nodes (a * node_words + children_at)) (sym ea) in
    let ys : kids_of ns b ≡ words_from nodes (b * node_words + children_at) n =
    children-in (nodes_in nodes) nodes b hb ∙ ap (words_from nodes (b * node_words + children_at)) (sym eb) in
    subst₂
    (λ (l r : List ℕ).
    Rewriting ns (later ns (oldest age conns)) (op_of ns a) n (twin_terms ns conns age a b) p q area start l r area place post start)
    (xs ∙ sym (left-all nodes (a * node_words + children_at) n)) (ys ∙ sym (left-all nodes (b * node_words + children_at) n))
    (children-none ok a refl
    (ap length xs ∙ words_long nodes (a * node_words + children_at) n) (kids_of ns b) refl s i j)

-- the children still to come, of a node with n
abbrev pub to_come : List ℕ → ℕ → ℕ → ℕ → List ℕ
to_come nodes a n i = left nodes (a * node_words + children_at) n i

-- the run from node a to b, of which the pairs xs and ys are still to come
abbrev pub State : List ℕ → List ℕ → ℕ → NodeNo → NodeNo → ℕ → List ℕ → Spot → List ℕ → List ℕ → List ℕ → ℕ → ℕ → ℕ → Type 0
State nodes conns age a b n area₀ spot xs ys area front back end =
    let ns = nodes_of nodes in
    Rewriting ns (later ns (oldest age conns)) (op_of ns a.0) n (twin_terms ns conns age a.0 b.0)
    (pre_of area₀ spot (length (term_words ns a.0))) (post_of area₀ spot) area₀ spot.end
    xs ys area (spot.place + front) (spot.post + back) end
