-- The step that the checker wants: rewriting by substitution (Baader and Nipkow) where the later term is marked.
use Rattle.std.specs.Prelude.{ℕ, List, Bool, true, false, not, ◌&&◌, ◌||◌, ◌≡◌}
use Rattle.std.proofs.Math.Option.{Option, none, some}
use Rattle.model.specs.declared.Direction.{Direction}
use Rattle.model.specs.declared.Direction.TheVariants.{Forward, Backward}
use Rattle.model.specs.Term.{Mark, unmarked, marked, Terms, no_terms, tree, same_op}
use Rattle.model.specs.Pattern.{Instance, fits}
use Rattle.model.specs.Rule.{Rule, listed, is_listed}

-- Of an earlier and a later term, the one that a rule's left side must be: the earlier (forward), or the later (backward). And the
-- one that its right side must be.
abbrev pub left_of : Direction → Terms → Terms → Terms
left_of Forward s t = s
left_of Backward s t = t

abbrev pub right_of : Direction → Terms → Terms → Terms
right_of Forward s t = t
right_of Backward s t = s

-- The two subterms of a mark's place are an instance of the rule that the mark names, which is listed.
pub record ByRule (rs : List Rule) (n : ℕ) (s t : Terms) : Type 0 where
  pub rule : Rule
  pub is_in : listed rs n ≡ some rule
  pub fit : Instance rule.left rule.right s t

abbrev pub Allowed : List Rule → Mark → Terms → Terms → Type 0
Allowed rs unmarked s t = ⊥
Allowed rs (marked d n) s t = ByRule rs n (left_of d s t) (right_of d s t)

-- "Go down both terms together, the earlier one's marks ignored. At an unmarked node of the later term, operator and count
-- agree. At a marked one some substitution" makes the pair an instance. (Counts agree where both rows end together.)
unfoldable pub Step : List Rule → Terms → Terms → Type 0
Step rs no_terms no_terms = Unit {0}
Step rs no_terms (tree o m k s) = ⊥
Step rs (tree o m k s) no_terms = ⊥
Step rs (tree o m k s) (tree o' unmarked k' s') = (o ≡ o') × Step rs k k' × Step rs s s'
Step rs (tree o m k s) (tree o' (marked d n) k' s') =
    Allowed rs (marked d n) (tree o m k no_terms) (tree o' (marked d n) k' no_terms) × Step rs s s'

-- the same, computed
abbrev pub fits_rule : Option Rule → Terms → Terms → Bool
fits_rule none s t = false
fits_rule (some r) s t = fits r.left r.right s t

unfoldable pub allowed : List Rule → Mark → Terms → Terms → Bool
unfolding listed fits
allowed rs unmarked s t = false
allowed rs (marked d n) s t = fits_rule (listed rs n) (left_of d s t) (right_of d s t)

unfoldable pub step : List Rule → Terms → Terms → Bool
unfolding allowed
step rs no_terms no_terms = true
step rs no_terms (tree o m k s) = false
step rs (tree o m k s) no_terms = false
step rs (tree o m k s) (tree o' unmarked k' s') = same_op o o' && (step rs k k' && step rs s s')
step rs (tree o m k s) (tree o' (marked d n) k' s') =
    allowed rs (marked d n) (tree o m k no_terms) (tree o' (marked d n) k' no_terms) && step rs s s'

-- whether a row has a mark of which p holds, and whether it has any
unfoldable pub some_mark : (Mark → Bool) → Terms → Bool
some_mark p no_terms = false
some_mark p (tree o m k s) = p m || (some_mark p k || some_mark p s)

abbrev pub is_mark : Mark → Bool
is_mark unmarked = false
is_mark (marked d n) = true

-- "a mark names an unlisted rule"
abbrev pub names_unlisted : List Rule → Mark → Bool
names_unlisted rs unmarked = false
names_unlisted rs (marked d n) = not (is_listed (listed rs n))

unfoldable pub unlisted : List Rule → Terms → Bool
unfolding some_mark listed
unlisted rs f = some_mark (names_unlisted rs) f
