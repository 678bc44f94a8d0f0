-- A line of hexadecimal: the kind of its frame and the bytes behind it, as they stand where they were spelled.
use Prim.Native.Nat.{ℕ, suc, ◌+◌, ◌-◌, ◌*◌, ◌/◌, ◌≤◌}
use mathlib.Core.Bool.{Bool, true, false, not, false≢true}
use mathlib.Core.List.{List, [], ◌∷◌, append-nil}
use mathlib.Core.Option.{Option, none, some}
use mathlib.Core.Path.{◌≡◌, refl, sym, ap, ◌∙◌}
use native.Mathlib.Omega.{arith}
use borrow.Author.Tests.{leb-true, leb-false, not-false, not-true}
use borrow.Rule.Slice.PartMut.{mid_of}
use lib.Dec.{leb}
use lib.ListN.{length, get_or}
use Rattle.model.specs.declared.Refusal.TheVariants.{NoLine}
use Rattle.model.specs.Limits.{digit_limit}
use Rattle.model.specs.Frame.{hex_digit, byte_front, hex_pairs, line_bytes, frame_of}
use Rattle.model.specs.Run.{State, stop, turn_if, in_order, line_turn}
use Rattle.laws.specs.Area.{splice, part}
use Rattle.laws.proofs.Area.{splice-inside, part-of-written}
use Rattle.laws.specs.Present.{present}
use Rattle.hex_lines.specs.Line.{decoded}
use Rattle.hex_lines.proofs.Lines.{no-digits, many-digits}
use Rattle.hex_lines.proofs.Spelled.{line-pairs}

-- two digits a byte
pairs-long : (ds bs : List ℕ) → hex_pairs ds ≡ some bs → length ds ≡ 2 * length bs
unfolding hex_pairs
pairs-long [] bs e = let z : [] ≡ bs = cc in omega (arith, ap length z)
pairs-long (a ∷ []) bs e = let z : ◌≡◌ {A = ℕ} 0 1 = cc in absurd (omega arith)
pairs-long (a ∷ b ∷ ds) bs e = by (pairs-long ds) (hex_digit a) (hex_digit b) (hex_pairs ds) refl e
  where
    by : ((rs : List ℕ) → hex_pairs ds ≡ some rs → length ds ≡ 2 * length rs) → (x y : Option ℕ) (r : Option (List ℕ)) → hex_pairs ds ≡ r → byte_front x y r ≡ some bs → suc (suc (length ds)) ≡ 2 * length bs
    by f none y r q p = let z : ◌≡◌ {A = ℕ} 0 1 = cc in absurd (omega arith)
    by f (some h) none r q p = let z : ◌≡◌ {A = ℕ} 0 1 = cc in absurd (omega arith)
    by f (some h) (some l) none q p = let z : ◌≡◌ {A = ℕ} 0 1 = cc in absurd (omega arith)
    by f (some h) (some l) (some rs) q p =
        let z : (h * 16 + l) ∷ rs ≡ bs = cc in
        omega (arith, f rs q, ap length z)

-- a line is the kind's byte and what stands behind it
pub record Framed (ds : List ℕ) : Type 0 where
  pub kind : ℕ
  pub rest : List ℕ
  pub is : decoded ds ≡ kind ∷ rest
  pub said : line_bytes ds ≡ some (kind ∷ rest)
  pub twice : length ds ≡ 2 * suc (length rest)
  pub short : length ds ≤ digit_limit

pub framed : (ds : List ℕ) → present (line_bytes ds) ≡ true → Framed ds
framed ds h = by (decoded ds) refl
  where
    p : (hex_pairs ds ≡ some (decoded ds)) × (line_bytes ds ≡ some (decoded ds))
    p = line-pairs ds h

    within : (b : Bool) → leb (length ds) digit_limit ≡ b → length ds ≤ digit_limit
    within true e = leb-true (length ds) digit_limit e
    within false e = absurd (false≢true (sym (ap present (many-digits ds (leb-false (length ds) digit_limit e))) ∙ h))

    by : (bs : List ℕ) → decoded ds ≡ bs → Framed ds
    by [] e =
        let n : length ds ≡ 0 = omega (arith, pairs-long ds (decoded ds) p.0, ap length e) in
        absurd (false≢true (no-digits ds n ∙ h))
    by (k ∷ bs) e =
        record {
          kind = k;
          rest = bs;
          is = e;
          said = p.1 ∙ ap some e;
          twice = omega (arith, pairs-long ds (decoded ds) p.0, ap length e);
          short = within (leb (length ds) digit_limit) refl;
        }

pub no_line : {b : Bool} (ds : List ℕ) → b ≡ present (line_bytes ds) → not b ≡ true → line_bytes ds ≡ none
no_line {b} ds e n = by (line_bytes ds) (sym e ∙ not-true b n)
  where
    by : (o : Option (List ℕ)) → present o ≡ false → o ≡ none
    by none q = refl
    by (some bs) q = absurd (false≢true (sym q))

pub a-line : {b : Bool} (ds : List ℕ) → b ≡ present (line_bytes ds) → not b ≡ false → present (line_bytes ds) ≡ true
a-line {b} ds e n = sym e ∙ not-false b n

-- what stands behind the kind's byte
behind : (old ws : List ℕ) (k : ℕ) (bs : List ℕ) → 0 + length ws ≤ length old → ws ≡ k ∷ bs → mid_of 1 (length bs) (splice old 0 ws) ≡ bs
unfolding part
behind old ws k bs fits e = part-of-written old 0 ws fits (k ∷ []) bs [] (e ∙ ap (λ (l : List ℕ). k ∷ l) (sym (append-nil bs)))

-- the turn of a line that is none, and of one that is
module _ (s : State) (line : ℕ) (ds : List ℕ) where
  pub of-no-line : line_bytes ds ≡ none → line_turn s line (line_bytes ds) ≡ stop NoLine
  unfolding line_turn
  of-no-line e = rw e refl

  pub of-line : (f : Framed ds) (old : List ℕ) → length ds ≤ 2 * length old →
      let new = splice old 0 (decoded ds) in
      let kind = get_or new 0 0 in
      line_turn s line (line_bytes ds) ≡ turn_if (in_order s.kind kind) s line (frame_of kind (mid_of 1 (length ds / 2 - 1) new))
  unfolding line_turn
  of-line f old h =
      let ws = decoded ds in
      let long : length ws ≡ suc (length f.rest) = ap length f.is in
      let fits : 0 + length ws ≤ length old = omega (arith, f.twice) in
      let kind : get_or (splice old 0 ws) 0 0 ≡ f.kind =
      splice-inside old 0 ws fits 0 (omega arith) ∙ ap (λ (l : List ℕ). get_or l 0 0) f.is in
      let count : length ds / 2 - 1 ≡ length f.rest = omega (arith, f.twice) in
      let rest : mid_of 1 (length ds / 2 - 1) (splice old 0 ws) ≡ f.rest =
      ap (λ (n : ℕ). mid_of 1 n (splice old 0 ws)) count ∙ behind old ws f.kind f.rest fits f.is in
      ap (line_turn s line) f.said ∙ rw (kind, rest) refl
