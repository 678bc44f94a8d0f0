-- How connections are judged (2, 6, 7).
use Rattle.std.specs.Prelude.{ℕ, Bool, true, false, not, ◌&&◌, ◌||◌, List, [], ◌∷◌, eqb, ltb, length}
use Rattle.std.proofs.Math.Option.{Option, none, some}
use Rattle.model.specs.declared.Connection.{Connection}
use Rattle.model.specs.declared.Justification.{Justification}
use Rattle.model.specs.declared.Justification.TheVariants.{Rule as by_rule, Congruence}
use Rattle.model.specs.declared.Refusal.TheVariants.{NoEntry, EndsUnfit, NoSupport}
use Rattle.model.specs.Judged.{Judged, good, bad, refuse_if}
use Rattle.model.specs.Term.{same_op}
use Rattle.model.specs.Node.{Node, op_of, kids_of}
use Rattle.model.specs.Forest.{cur, nxt, joined, parent_of, is_top}

-- 6: "number not in the node table, ends equal, current has a parent, or ends joined already". (Equal ends are joined.)
unfoldable pub misplaced : List Node → List Connection → Connection → Bool
unfolding joined parent_of
misplaced ns cs c =
    not (ltb (cur c) (length ns)) || not (ltb (nxt c) (length ns)) || eqb (cur c) (nxt c)
    || not (is_top (parent_of cs (cur c))) || joined cs (cur c) (nxt c)

-- each pair of children joined, and as many on both sides; every node is joined to itself
unfoldable pub pairs_joined : (ℕ → ℕ → Bool) → List ℕ → List ℕ → Bool
pairs_joined f [] [] = true
pairs_joined f [] (y ∷ ys) = false
pairs_joined f (x ∷ xs) [] = false
pairs_joined f (x ∷ xs) (y ∷ ys) = f x y && pairs_joined f xs ys

-- "A congruence needs equal operators and child counts, and each pair of children equal or joined by older connections alone."
unfoldable pub supported : List Node → List Connection → Justification → ℕ → ℕ → Bool
unfolding joined pairs_joined
supported ns cs (by_rule n f) a b = true
supported ns cs Congruence a b = same_op (op_of ns a) (op_of ns b) && pairs_joined (joined cs) (kids_of ns a) (kids_of ns b)

-- An entry that is not there is one of wrong length or with a field outside its set: 2. Then 6, and "congruence without support" is 7.
unfoldable pub add_connection : List Node → List Connection → Option Connection → Judged (List Connection)
unfolding misplaced supported
add_connection ns cs none = bad NoEntry
add_connection ns cs (some c) =
    refuse_if (misplaced ns cs c) EndsUnfit
    (refuse_if (not (supported ns cs c.why (cur c) (nxt c))) NoSupport
    (good (c ∷ cs)))
