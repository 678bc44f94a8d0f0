-- Where each rule connection is an instance of its listed rule, each later term between two joined nodes is one step of the
-- checker from the one before, the first from the left node's term.
use Prim.Native.Nat.{ℕ}
use mathlib.Core.Path.{◌≡◌, refl, sym, ap}
use mathlib.Core.Bool.{Bool, true, false}
use mathlib.Core.List.{List, [], ◌∷◌}
use Rattle.model.specs.declared.Connection.{Connection}
use Rattle.model.specs.declared.Direction.{Direction}
use Rattle.model.specs.declared.Direction.TheVariants.{Forward, Backward}
use Rattle.model.specs.declared.Justification.{Justification}
use Rattle.model.specs.declared.Justification.TheVariants.{Rule as by_rule, Congruence}
use Rattle.model.specs.declared.RuleNo.{RuleNo}
use Rattle.model.specs.Term.{Mark, unmarked, marked, Terms, no_terms, tree, join, one, strip, marks}
use Rattle.model.specs.Rule.{Rule}
use Rattle.model.specs.Step.{Allowed, Step}
use Rattle.model.specs.Node.{Node, op_of, kids_of, row, term_of}
use Rattle.model.specs.Forest.{cur, nxt}
use Rattle.model.specs.Premise.{InstanceBy, Premise}
use Rattle.model.specs.Flat.{turned, mark_for, marked_term, within, runs, appended, later_step, later}
use Rattle.paths.specs.Hangs.{AcceptedConnections, Paired}
use Rattle.paths.proofs.Accept.{accepted-loose}
use Rattle.flat.specs.Ends.{last_or, Leads}
use Rattle.flat.specs.Nodes.{AcceptedNodes}
use Rattle.flat.proofs.NodeTerms.{term-op, terms-unmarked, term_is}
use Rattle.flat.proofs.Within.{leads-join}
use Rattle.flat.proofs.Runs.{Known, Like, after_run, held-unmarked}
use Rattle.flat.proofs.Twins.{Twins, twins, twins-back}
use Rattle.flat.proofs.Appended.{appended-arrive}
use Rattle.flat.proofs.Walked.{walked}
use Rattle.flat.proofs.Stepping.{allowed-alike, Stepping, stepping-alike, stepping-join, stepping-within}

-- a rule connection's two terms are an instance of its rule: of the connection from a to b walked up, or from b to a walked down
abbrev AlongRule : List Rule → List Node → Justification → Bool → ℕ → ℕ → Type 0
AlongRule rs ns w true a b = InstanceBy rs ns w a b
AlongRule rs ns w false a b = InstanceBy rs ns w b a

module _ (rs : List Rule) (ns : List Node) where
  -- "marked at its root": the mark plays no part in the instance
  marked-alike : (m : Mark) (b : ℕ) → strip (one (term_of ns b)) ≡ strip (marked_term ns m b)
  unfolding strip
  marked-alike m b = ap (λ o. tree o unmarked (strip (term_of ns b).kids) no_terms) (term-op ns b)

  -- walked down, the direction is turned and the two ends are exchanged: the same instance
  turned-way : (n : ℕ) (d : Direction) (s t : Terms) → Allowed rs (marked d n) s t → Allowed rs (marked (turned d) n) t s
  turned-way n Forward s t i = i
  turned-way n Backward s t i = i

  marked_step : (n : RuleNo) (d : Direction) (up : Bool) (a b : ℕ) → AlongRule rs ns (by_rule n d) up a b →
      Step rs (one (term_of ns a)) (marked_term ns (mark_for n.0 d up) b)
  unfolding Step
  marked_step n d true a b i = (allowed-alike rs d n.0 _ _ _ _ refl (marked-alike (marked d n.0) b) i, tt)
  marked_step n d false a b i =
      (allowed-alike rs (turned d) n.0 _ _ _ _ refl (marked-alike (marked (turned d) n.0) b) (turned-way n.0 d _ _ i), tt)

  -- the later terms f lead from node l to node r, each one step from the one before
  pub record StepWay (l r : ℕ) (f : Terms) : Type 0 where
    pub arrives : Leads ns l r f
    pub steps : Stepping rs (one (term_of ns l)) f

  -- the same as a relation between two walks, of which the second plays no part
  abbrev Both : ℕ → ℕ → Terms → Terms → Type 0
  Both l r f g = StepWay l r f

  none : (n : ℕ) → Both n n no_terms no_terms
  unfolding last_or Stepping
  none n = record { arrives = refl; steps = tt }

  two : (l m r : ℕ) (f f' g g' : Terms) → Both l m f g → Both m r f' g' → Both l r (join f f') (join g g')
  two l m r f f' g g' v w =
      let from = one (term_of ns l) in
      record {
        arrives = leads-join ns l m r f f' v.arrives w.arrives;
        steps =
            stepping-join rs from f f' v.steps
            (stepping-alike rs (one (term_of ns m)) (last_or from f) f' (sym v.arrives) w.steps);
      }

  module _ (cs : List Connection) (proof : ℕ → ℕ → Terms) (known : Known cs (λ x y. StepWay x y (proof x y))) where
    runs-step : (o : ℕ) (before : Terms) → marks before ≡ 0 → (xs ys : List ℕ) → Paired cs xs ys → (t : Terms) →
        Like o (join before (row (term_of ns) xs)) t → Stepping rs t (runs ns proof o before xs ys)
    unfolding runs Stepping row within
    runs-step o before e [] ys p t q = tt
    runs-step o before e (x ∷ xs) [] p t q = tt
    runs-step o before e (x ∷ xs) (y ∷ ys) p t q =
        let w = known x y p.0 in
        let u = term_of ns x in
        let behind = row (term_of ns) xs in
        let run = within o before behind (proof x y) in
        stepping-join rs t run (runs ns proof o (join before (one (term_of ns y))) xs ys)
        (stepping-alike rs (within o before behind (one u)) t run (sym q)
        (stepping-within rs o before behind e (terms-unmarked ns xs) u.op u.mark u.kids (proof x y) w.steps))
        (runs-step o (join before (one (term_of ns y))) (held-unmarked ns before e y) xs ys p.1 (last_or t run)
        (after_run ns o before e x y xs (proof x y) t w.arrives q))

    appended-step : AcceptedNodes ns → (w : Justification) (up : Bool) (a b : ℕ) → (w ≡ Congruence → Twins ns cs a b) →
        AlongRule rs ns w up a b → Stepping rs (one (term_of ns a)) (appended ns proof w up a b)
    unfolding appended Stepping join marks
    appended-step nodes (by_rule n d) up a b s i = (marked_step n d up a b i, tt)
    appended-step nodes Congruence up a b s i =
        runs-step (op_of ns a) no_terms refl (kids_of ns a) (kids_of ns b) (s refl).kids (one (term_of ns a))
        (ap (λ t. strip (one t)) (term_is ns nodes a))

  -- accepted connections, each rule connection an instance
  pub record Sound (cs : List Connection) : Type 0 where
    pub accepted : AcceptedConnections ns cs
    pub premise : Premise rs ns cs

  module _ (nodes : AcceptedNodes ns) where
    own : (c : Connection) (cs : List Connection) → Known cs (λ x y. StepWay x y (later ns cs x y)) →
        (up : Bool) (a b : ℕ) → (c.why ≡ Congruence → Twins ns cs a b) → AlongRule rs ns c.why up a b →
        StepWay a b (appended ns (later ns cs) c.why up a b)
    own c cs known up a b s i =
        record {
          arrives = appended-arrive ns cs (later ns cs) nodes (λ x y j. (known x y j).arrives) c.why up a b s;
          steps = appended-step cs (later ns cs) known nodes c.why up a b s i;
        }

    pub step-way : (cs : List Connection) → Sound cs → Known cs (λ l r. StepWay l r (later ns cs l r))
    unfolding later Premise
    step-way =
        walked no_terms join (later_step ns) no_terms join (later_step ns) Both none two Sound
        (λ c cs s. record { accepted = s.accepted.1; premise = s.premise.1 }) (λ cs s. accepted-loose ns cs s.accepted)
        (λ c cs s known. own c cs known true (cur c) (nxt c) (twins s.accepted) s.premise.0)
        (λ c cs s known. own c cs known false (nxt c) (cur c) (twins-back s.accepted) s.premise.0)
