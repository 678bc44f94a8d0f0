-- Laws of the rule table: what its accepted entries are, where a number is listed, and what adding an entry answers.
-- Assumes nothing.
use Prim.Native.Nat.{ℕ, zero, suc, ◌+◌, ◌*◌, ◌-◌, ◌≤◌, ◌<◌}
use mathlib.Core.Bool.{Bool, true, false, not, ◌||◌}
use mathlib.Core.List.{List, [], ◌∷◌}
use mathlib.Core.Option.{Option as Maybe, none, some}
use Rattle.std.specs.Prelude.{Option, Some, None}
use mathlib.Core.Path.{◌≡◌, refl, ap, sym, ◌∙◌}
use native.Mathlib.Decide.{ℕ_discrete}
use native.Mathlib.Omega.{arith}
use borrow.Author.Tests.{eq-eqb, ne_eqb, eqb-true, leb-true}
use lib.Dec.{leb, eqb}
use lib.ListN.{length, get_or}
use Rattle.model.specs.declared.Refusal.TheVariants.{TableFull, RuleUnfit}
use Rattle.model.specs.Limits.{rule_limit}
use Rattle.model.specs.Pattern.{Patterns, bound}
use Rattle.model.specs.Judged.{Judged, good, bad, refuse_if}
use Rattle.model.specs.Rule.{Rule, or_else, listed, is_listed, rule_of, add_rule}
use Rattle.model.specs.Tables.{only_if, side_at, rule_words, rule_entry, and_add, entries, left_at, right_at}
use Rattle.rule_table.specs.Entries.{rules_in, listed_if, listed_below}
use Rattle.rule_table.proofs.Patterns.{none-some}
use Rattle.rule_table.proofs.Sides.{SideIs, side-is}
use Rattle.rule_table.proofs.Parts.{rule_from}

-- one turn of the search: the newest entry has the number, or the older ones decide
pub place_here : (ws : List ℕ) (i x : ℕ) → 0 < i → x ≡ get_or ws ((i - 1) * rule_words) 0 → Some (i - 1) ≡ listed_below ws i x
unfolding listed_below
place_here ws zero x h e = absurd (omega arith)
place_here ws (suc i) x h e =
    let p : suc i - 1 ≡ i = omega arith in
    rw (p, eq-eqb x (get_or ws (i * rule_words) 0) (rw p at e))

pub place-older : (ws : List ℕ) (i x : ℕ) → 0 < i → (x ≡ get_or ws ((i - 1) * rule_words) 0 → ⊥)
    → listed_below ws (i - 1) x ≡ listed_below ws i x
unfolding listed_below
place-older ws zero x h e = absurd (omega arith)
place-older ws (suc i) x h e =
    let p : suc i - 1 ≡ i = omega arith in
    rw (p, ne_eqb x (get_or ws (i * rule_words) 0) (rw p at e))

pub place_none : (ws : List ℕ) (i x : ℕ) → i ≡ 0 → None ≡ listed_below ws i x
unfolding listed_below
place_none ws i x e = rw e

-- entry i of a table is the rule r: it stands there whole, with its number, and its slots spell its sides
pub record EntryIs (ws : List ℕ) (i : ℕ) (r : Rule) : Type 0 where
  pub room : i * rule_words + rule_words ≤ length ws
  pub number : r.number ≡ get_or ws (i * rule_words) 0
  pub left : SideIs ws (i * rule_words + left_at) (get_or ws (i * rule_words + 1) 0) r.left
  pub right : SideIs ws (i * rule_words + right_at) (get_or ws (i * rule_words + 2) 0) r.right

module _ (ws : List ℕ) (i : ℕ) (r : Rule) where
  of-sides : i * rule_words + rule_words ≤ length ws → (l : Maybe Patterns)
      → side_at ws (i * rule_words + left_at) (get_or ws (i * rule_words + 1) 0) ≡ l
      → (m : Maybe Patterns) → side_at ws (i * rule_words + right_at) (get_or ws (i * rule_words + 2) 0) ≡ m
      → rule_of (get_or ws (i * rule_words) 0) l m ≡ some r → EntryIs ws i r
  of-sides h none p m q e = absurd (none-some e)
  of-sides h (some l) p none q e = absurd (none-some e)
  of-sides h (some l) p (some m) q e =
      let x : record { number = get_or ws (i * rule_words) 0; left = l; right = m } ≡ r = cc in
      rw (← x) (record { room = h; number = refl; left = side-is _ _ _ l p; right = side-is _ _ _ m q })

  of_room : (b : Bool) → leb (i * rule_words + rule_words) (length ws) ≡ b
      → only_if b (rule_from ws (i * rule_words)) ≡ some r → EntryIs ws i r
  of_room false h e = absurd (none-some e)
  of_room true h e = of-sides (leb-true _ _ h) _ refl _ refl e

  pub entry-is : rule_entry ws i ≡ some r → EntryIs ws i r
  unfolding rule_entry
  entry-is e = of_room _ refl e

-- what adding an entry took
record AddedRule (older : List Rule) (e : Maybe Rule) (rs : List Rule) : Type 0 where
  rule : Rule
  entry : e ≡ some rule
  rules : rule ∷ older ≡ rs
  fresh : is_listed (listed older rule.number) ≡ false

fresh-of : (a b c : Bool) (older rs : List Rule) (r : Rule) → refuse_if a TableFull (refuse_if (b || c) RuleUnfit (good (r ∷ older))) ≡ good rs
    → (b ≡ false) × (r ∷ older ≡ rs)
fresh-of true b c older rs r e = let z : ◌≡◌ {A = ℕ} 0 1 = cc in absurd (omega arith)
fresh-of false true c older rs r e = let z : ◌≡◌ {A = ℕ} 0 1 = cc in absurd (omega arith)
fresh-of false false true older rs r e = let z : ◌≡◌ {A = ℕ} 0 1 = cc in absurd (omega arith)
fresh-of false false false older rs r e = (refl, cc)

added : (older : List Rule) (e : Maybe Rule) (rs : List Rule) → add_rule older e ≡ good rs → AddedRule older e rs
unfolding add_rule
added older none rs h = let z : ◌≡◌ {A = ℕ} 0 1 = cc in absurd (omega arith)
added older (some r) rs h =
    let many = leb rule_limit (length older) in
    let f = fresh-of many (is_listed (listed older r.number)) (not (bound r.left r.right)) older rs r h in
    record { rule = r; entry = refl; rules = f.1; fresh = f.0 }

-- the newest accepted entry, and those before it
record Newest (ws : List ℕ) (n : ℕ) (rs : List Rule) : Type 0 where
  older : List Rule
  before : rules_in ws n ≡ good older
  add : AddedRule older (rule_entry ws n) rs

newest-by : (ws : List ℕ) (n : ℕ) (rs : List Rule) (j : Judged (List Rule)) → rules_in ws n ≡ j
    → and_add add_rule (rule_entry ws) [] j (rule_entry ws n) ≡ good rs → Newest ws n rs
newest-by ws n rs (bad m) p e = let z : ◌≡◌ {A = ℕ} 0 1 = cc in absurd (omega arith)
newest-by ws n rs (good older) p e = record { older = older; before = p; add = added older (rule_entry ws n) rs e }

newest : (ws : List ℕ) (n : ℕ) (rs : List Rule) → rules_in ws (suc n) ≡ good rs → Newest ws n rs
unfolding entries
newest ws n rs e = newest-by ws n rs (rules_in ws n) refl e

none_yet : (ws : List ℕ) (rs : List Rule) → rules_in ws 0 ≡ good rs → [] ≡ rs
unfolding entries
none_yet ws rs e = cc

-- there are as many rules as accepted entries, and these stand there whole
pub rules-length : (ws : List ℕ) (n : ℕ) (rs : List Rule) → rules_in ws n ≡ good rs → length rs ≡ n
rules-length ws zero rs e = ap length (sym (none_yet ws rs e))
rules-length ws (suc n) rs e =
    let w = newest ws n rs e in
    ap length (sym w.add.rules) ∙ ap suc (rules-length ws n w.older w.before)

pub rules-room : (ws : List ℕ) (n : ℕ) (rs : List Rule) → rules_in ws n ≡ good rs → n * rule_words ≤ length ws
rules-room ws zero rs e = omega arith
rules-room ws (suc n) rs e =
    let w = newest ws n rs e in
    omega (arith, (entry-is ws n w.add.rule w.add.entry).room)

-- each accepted entry is a rule
pub record RuleEntry (ws : List ℕ) (i : ℕ) : Type 0 where
  pub rule : Rule
  pub said : rule_entry ws i ≡ some rule
  pub is : EntryIs ws i rule

pub entry_at : (ws : List ℕ) (n : ℕ) (rs : List Rule) → rules_in ws n ≡ good rs → (i : ℕ) → i < n → RuleEntry ws i
entry_at ws zero rs e i h = absurd (omega arith)
entry_at ws (suc n) rs e i h =
    let w = newest ws n rs e in
    elim (ℕ_discrete i n) [
      | yes p ↦ rw p (record { rule = w.add.rule; said = w.add.entry; is = entry-is ws n w.add.rule w.add.entry })
      | no p ↦ entry_at ws n w.older w.before i (omega arith)
    ]

-- the rule of the entry that lists a number
abbrev pub rule_at : List ℕ → Option ℕ → Maybe Rule
rule_at ws (Some i) = rule_entry ws i
rule_at ws None = none

listed-newest : (ws : List ℕ) (n : ℕ) (r : Rule) (o : Maybe Rule) (p : Option ℕ) (b : Bool) → rule_entry ws n ≡ some r
    → o ≡ rule_at ws p → or_else b r o ≡ rule_at ws (listed_if b n p)
listed-newest ws n r o p true e q = sym e
listed-newest ws n r o p false e q = q

-- the rule of a number is the one of the entry that lists it
pub listed-place : (ws : List ℕ) (x n : ℕ) (rs : List Rule) → rules_in ws n ≡ good rs
    → listed rs x ≡ rule_at ws (listed_below ws n x)
unfolding listed listed_below
listed-place ws x zero rs e = ap (λ (l : List Rule). listed l x) (sym (none_yet ws rs e))
listed-place ws x (suc n) rs e =
    let w = newest ws n rs e in
    let i = entry-is ws n w.add.rule w.add.entry in
    ap (λ (l : List Rule). listed l x) (sym w.add.rules)
    ∙ rw i.number (listed-newest ws n w.add.rule _ (listed_below ws n x) (eqb x (get_or ws (n * rule_words) 0)) w.add.entry
    (listed-place ws x n w.older w.before))

-- an entry that lists a number has it, and where none does none has it
module _ (ws : List ℕ) (x n : ℕ) where
  at-newest : (i : ℕ) (p : Option ℕ) (b : Bool) → eqb x (get_or ws (n * rule_words) 0) ≡ b
      → (p ≡ Some i → (i < n) × (get_or ws (i * rule_words) 0 ≡ x))
      → listed_if b n p ≡ Some i → (i < suc n) × (get_or ws (i * rule_words) 0 ≡ x)
  at-newest i p true e h q = let k : n ≡ i = cc in rw (← k) (omega arith, sym (eqb-true _ _ e))
  at-newest i p false e h q = let r = h q in (omega arith, r.1)

pub place_at : (ws : List ℕ) (x n i : ℕ) → listed_below ws n x ≡ Some i → (i < n) × (get_or ws (i * rule_words) 0 ≡ x)
unfolding listed_below
place_at ws x zero i e = let z : ◌≡◌ {A = ℕ} 0 1 = cc in absurd (omega arith)
place_at ws x (suc n) i e = at-newest ws x n i (listed_below ws n x) _ refl (place_at ws x n i) e

-- so a number is listed where its entry is found, and the rule of that entry is the rule listed
pub record Found (ws : List ℕ) (rs : List Rule) (x i : ℕ) : Type 0 where
  pub rule : Rule
  pub listed : listed rs x ≡ some rule
  pub said : rule_entry ws i ≡ some rule
  pub is : EntryIs ws i rule

pub rule_found : (ws : List ℕ) (n : ℕ) (rs : List Rule) (x i : ℕ) → rules_in ws n ≡ good rs → listed_below ws n x ≡ Some i
    → Found ws rs x i
rule_found ws n rs x i e p =
    let w = entry_at ws n rs e i (place_at ws x n i p).0 in
    record { rule = w.rule; listed = listed-place ws x n rs e ∙ ap (rule_at ws) p ∙ w.said; said = w.said; is = w.is }

pub rule-nowhere : (ws : List ℕ) (n : ℕ) (rs : List Rule) (x : ℕ) → rules_in ws n ≡ good rs → listed_below ws n x ≡ None
    → listed rs x ≡ none
rule-nowhere ws n rs x e p = listed-place ws x n rs e ∙ ap (rule_at ws) p

-- "each listed once": where an older entry has the number, the newest has another
newest-apart : (ws : List ℕ) (n : ℕ) (rs : List Rule) → Newest ws n rs → (x i : ℕ) → listed_below ws n x ≡ Some i
    → x ≡ get_or ws (n * rule_words) 0 → ⊥
newest-apart ws n rs w x i p q =
    let again = ap is_listed (rule_found ws n w.older x i w.before p).listed in
    let number = (entry-is ws n w.add.rule w.add.entry).number in
    let fresh = ap (λ (y : ℕ). is_listed (listed w.older y)) (q ∙ sym number) ∙ w.add.fresh in
    let z : ◌≡◌ {A = ℕ} 0 1 = cc in omega arith

-- so an accepted entry with the number is the one that is found
pub place-only : (ws : List ℕ) (x n : ℕ) (rs : List Rule) → rules_in ws n ≡ good rs → (i : ℕ) → i < n
    → get_or ws (i * rule_words) 0 ≡ x → listed_below ws n x ≡ Some i
unfolding listed_below
place-only ws x zero rs e i h d = absurd (omega arith)
place-only ws x (suc n) rs e i h d =
    elim (ℕ_discrete i n) [
      | yes p ↦ rw (p, eq-eqb x (get_or ws (n * rule_words) 0) (sym (rw p at d)))
      | no p ↦
          let w = newest ws n rs e in
          let older = place-only ws x n w.older w.before i (omega arith) d in
          rw (ne_eqb x (get_or ws (n * rule_words) 0) (newest-apart ws n rs w x i older)) older
    ]
