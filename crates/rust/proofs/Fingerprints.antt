-- The Rust keeps what it has explained by the pair of nodes that a connection leads between (`ExplainCache`). Here each is explained anew: no pair has
-- two connections, so that what was kept is what would be made.
use mathlib.Core.Path.{◌≡◌, refl, sym, ap, ◌∙◌}
use mathlib.Core.Bool.{Bool, true, false}
use mathlib.Core.List.{List, [], ◌∷◌, Memᴰ}
use Rattle.model.specs.declared.Connection.{Connection as TableConnection}
use Rattle.model.specs.Forest.{cur, nxt, root, by}
use Rattle.paths.specs.Hangs.{Loose}
use Rattle.paths.proofs.Joined.{linked-root}
use Rattle.rust.specs.Read.{as_walked_by}

-- a connection joins the nodes that it leads between, either way
walked-joins : (c : TableConnection) (u : Bool) (cs : List TableConnection) → Memᴰ c cs →
    root cs (as_walked_by c u).current ≡ root cs (as_walked_by c u).next
walked-joins c true cs m = linked-root (by m)
walked-joins c false cs m = sym (linked-root (by m))

joins-walked : (c : TableConnection) (u : Bool) (cs : List TableConnection) → root cs (as_walked_by c u).current ≡ root cs (as_walked_by c u).next →
    root cs (cur c) ≡ root cs (nxt c)
joins-walked c true cs e = e
joins-walked c false cs e = sym e

-- so that the newest leads between other nodes than the older ones
module _ (c d : TableConnection) (u v : Bool) (cs : List TableConnection) (here : (as_walked_by c u).current ≡ (as_walked_by d v).current)
    (there : (as_walked_by c u).next ≡ (as_walked_by d v).next) where
  older-joins : Memᴰ d cs → root cs (cur c) ≡ root cs (nxt c)
  older-joins m = joins-walked c u cs (ap (root cs) here ∙ walked-joins d v cs m ∙ ap (root cs) (sym there))

same_way : (c : TableConnection) (u v : Bool) (cs : List TableConnection) → (root cs (cur c) ≡ root cs (nxt c) → ⊥) →
    (as_walked_by c u).current ≡ (as_walked_by c v).current → as_walked_by c u ≡ as_walked_by c v
same_way c true true cs n e = refl
same_way c true false cs n e = absurd (n (ap (root cs) e))
same_way c false true cs n e = absurd (n (ap (root cs) (sym e)))
same_way c false false cs n e = refl

ends : (cs : List TableConnection) {c d : TableConnection} → c ≡ d → root cs (cur c) ≡ root cs (nxt c) → root cs (cur d) ≡ root cs (nxt d)
ends cs p e = ap (λ (x : TableConnection). root cs (cur x)) (sym p) ∙ e ∙ ap (λ (x : TableConnection). root cs (nxt x)) p

-- THE PAIR OF NODES DETERMINES THE CONNECTION, as it is walked
pub fingerprint : (cs : List TableConnection) → Loose cs → (c d : TableConnection) (u v : Bool) → Memᴰ c cs → Memᴰ d cs →
    (as_walked_by c u).current ≡ (as_walked_by d v).current → (as_walked_by c u).next ≡ (as_walked_by d v).next → as_walked_by c u ≡ as_walked_by d v
fingerprint [] n c d u v x5 _ e g = elim x5 [ ]
fingerprint (x ∷ cs) n c d u v (Memᴰ.head p) (Memᴰ.head q) e g =
    let r : c ≡ d = p ∙ sym q in
    same_way c u v cs (λ z. n.0 (ends cs p z)) (e ∙ ap (λ (y : TableConnection). (as_walked_by y v).current) (sym r))
    ∙ ap (λ (y : TableConnection). as_walked_by y v) r
fingerprint (x ∷ cs) n c d u v (Memᴰ.head p) (Memᴰ.tail m) e g = absurd (n.0 (ends cs p (older-joins c d u v cs e g m)))
fingerprint (x ∷ cs) n c d u v (Memᴰ.tail m) (Memᴰ.head q) e g = absurd (n.0 (ends cs q (older-joins d c v u cs (sym e) (sym g) m)))
fingerprint (x ∷ cs) n c d u v (Memᴰ.tail m) (Memᴰ.tail k) e g = fingerprint cs n.1 c d u v m k e g
