-- What accepted tables give to whoever walks them: each connection is sound, and a congruence's children are joined by older ones.
use Prim.Native.Nat.{ℕ, zero, suc, ◌+◌, ◌*◌, ◌≤◌, ◌<◌}
use mathlib.Core.Path.{◌≡◌, sym, ap, ◌∙◌, subst₂}
use mathlib.Core.List.{List}
use native.Mathlib.Omega.{arith}
use native.Mathlib.Decide.{ℕ_discrete}
use Rattle.model.specs.Tables.{node_words, children_at}
use Rattle.model.specs.declared.Connection.{Connection}
use Rattle.model.specs.declared.Justification.TheVariants.{Congruence}
use Rattle.model.specs.Node.{Node}
use Rattle.model.specs.Forest.{cur, nxt, root}
use Rattle.paths.specs.Hangs.{AcceptedConnections, Sound, Paired}
use Rattle.entries.specs.Connections.{connection_in, oldest, Supported, TwinsIn}
use Rattle.entries.specs.Nodes.{first_nodes, count_in, children_in}
use Rattle.paths.proofs.Accept.{sound, kin, paired-length, paired_at}
use Rattle.entries.proofs.Nodes.{children-in, length-nodes, known}
use Rattle.entries.proofs.Children.{length-words, words-at}

-- the connection of each age was accepted behind the older ones
pub sound-at : (ns : List Node) (ws : List ℕ) (k a : ℕ) → AcceptedConnections ns (oldest k ws) → a < k → Sound ns (oldest a ws) (connection_in ws a)
unfolding oldest
sound-at ns ws zero a s h = absurd (omega arith)
sound-at ns ws (suc k) a s h =
    elim (ℕ_discrete a k) [ yes e ↦ rw e (sound s.0) | no e ↦ sound-at ns ws k a s.1 (omega arith) ]

-- the older ones of accepted connections are accepted
pub accepted-older : (ns : List Node) (ws : List ℕ) (k m : ℕ) → k ≤ m → AcceptedConnections ns (oldest m ws) → AcceptedConnections ns (oldest k ws)
unfolding oldest
accepted-older ns ws k zero h a = let e : k ≡ 0 = omega arith in rw e a
accepted-older ns ws k (suc m) h a =
    elim (ℕ_discrete k (suc m)) [ yes e ↦ rw e a | no e ↦ accepted-older ns ws k m (omega arith) a.1 ]

module _ {nodes : List ℕ} {n : ℕ} {conns : List ℕ} {count : ℕ} (s : Supported nodes n conns count) (a : ℕ) (h : a < count) where
  abbrev c : Connection
  c = connection_in conns a

  pub sound-here : Sound (first_nodes n nodes) (oldest a conns) (connection_in conns a)
  sound-here = sound-at (first_nodes n nodes) conns count a s.accepted h

  pub current-here : cur (connection_in conns a) < n
  current-here = omega (arith, sound-here.current-in, length-nodes n nodes)

  pub next_here : nxt (connection_in conns a) < n
  next_here = omega (arith, sound-here.next-in, length-nodes n nodes)

  pub twins : (connection_in conns a).why ≡ Congruence → TwinsIn nodes conns a (cur (connection_in conns a)) (nxt (connection_in conns a))
  twins w =
      let cs = oldest a conns in
      let xs = children_in nodes (cur c) in
      let ys = children_in nodes (nxt c) in
      let p : Paired cs xs ys =
      subst₂ (Paired cs) (children-in n nodes (cur c) current-here) (children-in n nodes (nxt c) next_here) (kin sound-here w) in
      let e : count_in nodes (cur c) ≡ count_in nodes (nxt c) =
      sym (length-words nodes (cur c * node_words + children_at) (count_in nodes (cur c))) ∙ paired-length cs xs ys p
      ∙ length-words nodes (nxt c * node_words + children_at) (count_in nodes (nxt c)) in
      record {
        left-known = known (cur c) s.table current-here;
        right-known = known (nxt c) s.table next_here;
        even = e;
        joins = λ i q.
            ap (root cs) (sym (words-at nodes (cur c * node_words + children_at) (count_in nodes (cur c)) i q))
            ∙ paired_at cs xs ys p i
            ∙ ap (root cs) (words-at nodes (nxt c * node_words + children_at) (count_in nodes (nxt c)) i (omega arith));
      }
