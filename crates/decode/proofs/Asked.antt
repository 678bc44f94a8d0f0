-- A query's frame has four bytes, and one of an offered proof whole sixes of them, of which each gives four words.
use Prim.Native.Nat.{ℕ, zero, suc, ◌+◌, ◌*◌, ◌/◌, ◌%◌, ◌≤◌, ◌<◌}
use mathlib.Core.List.{List, [], ◌∷◌, ◌++◌, append_assoc, append-nil}
use mathlib.Core.Option.{Option, none, some}
use mathlib.Core.Path.{◌≡◌, refl, sym, ap, ap₂, ◌∙◌}
use native.Mathlib.Omega.{arith}
use lib.ListN.{length, get_or, set, drop, length-append, length-drop, drop_of_length-le}
use lib.Seq.{get_or-drop, drop-drop}
use Rattle.model.specs.Limits.{flat_words}
use Rattle.model.specs.Frame.{two, query_frame, four_front, sixes, words_frame}
use Rattle.laws.specs.Area.{splice}
use Rattle.laws.proofs.Area.{length-splice, splice-none, splice_all, splice-more, splice-node}
use Rattle.rule_table.proofs.Patterns.{none-some}
use Rattle.std.proofs.Common.{Some, None}
use Rattle.decode.specs.Asked.{pair_of, offered_of, six_words, Holds}

pub no-pair : (bs : List ℕ) → (length bs ≡ 4 → ⊥) → None ≡ pair_of (query_frame bs)
unfolding query_frame
no-pair [] h = refl
no-pair (a ∷ []) h = refl
no-pair (a ∷ b ∷ []) h = refl
no-pair (a ∷ b ∷ c ∷ []) h = refl
no-pair (a ∷ b ∷ c ∷ d ∷ []) h = absurd (h refl)
no-pair (a ∷ b ∷ c ∷ d ∷ x ∷ bs) h = refl

pub a_pair : (bs : List ℕ) (l r : ℕ) → length bs ≡ 4 → l ≡ two (get_or bs 0 0) (get_or bs 1 0) → r ≡ two (get_or bs 2 0) (get_or bs 3 0) →
    Some (record { 0 = l }, record { 0 = r }) ≡ pair_of (query_frame bs)
unfolding query_frame
a_pair [] l r h p q = absurd (omega arith)
a_pair (a ∷ []) l r h p q = absurd (omega arith)
a_pair (a ∷ b ∷ []) l r h p q = absurd (omega arith)
a_pair (a ∷ b ∷ c ∷ []) l r h p q = absurd (omega arith)
a_pair (a ∷ b ∷ c ∷ d ∷ []) l r h p q = rw (p, q) refl
a_pair (a ∷ b ∷ c ∷ d ∷ x ∷ bs) l r h p q = absurd (omega arith)

-- Sixes of bytes: what the first of them and those behind it say.
first-six : (l : List ℕ) → 6 ≤ length l → sixes l ≡ four_front (two (get_or l 0 0) (get_or l 1 0)) (get_or l 2 0) (get_or l 3 0) (two (get_or l 4 0) (get_or l 5 0)) (sixes (drop 6 l))
unfolding sixes
first-six [] h = absurd (omega arith)
first-six (a ∷ []) h = absurd (omega arith)
first-six (a ∷ b ∷ []) h = absurd (omega arith)
first-six (a ∷ b ∷ c ∷ []) h = absurd (omega arith)
first-six (a ∷ b ∷ c ∷ m ∷ []) h = absurd (omega arith)
first-six (a ∷ b ∷ c ∷ m ∷ r ∷ []) h = absurd (omega arith)
first-six (a ∷ b ∷ c ∷ m ∷ r ∷ n ∷ bs) h = refl

-- words in front of others, if there are others
abbrev joined : List ℕ → Option (List ℕ) → Option (List ℕ)
joined front none = none
joined front (some ws) = some (front ++ ws)

join-four : (front : List ℕ) (o c m r : ℕ) (ws : Option (List ℕ)) → joined front (four_front o c m r ws) ≡ joined (front ++ (o ∷ c ∷ m ∷ r ∷ [])) ws
join-four front o c m r none = refl
join-four front o c m r (some ws) = ap some (sym (append_assoc front (o ∷ c ∷ m ∷ r ∷ []) ws))

six-at : (bs front : List ℕ) (i : ℕ) → i + 6 ≤ length bs → joined front (sixes (drop i bs)) ≡ joined (front ++ six_words bs i) (sixes (drop (i + 6) bs))
six-at bs front i h =
    let at : (k : ℕ) → get_or (drop i bs) k 0 ≡ get_or bs (i + k) 0 = λ k. get_or-drop i bs k 0 in
    let five : get_or bs (i + 5) 0 ≡ get_or bs (i + 4 + 1) 0 = ap (λ (k : ℕ). get_or bs k 0) (omega arith) in
    let first : get_or bs (i + 0) 0 ≡ get_or bs i 0 = ap (λ (k : ℕ). get_or bs k 0) (omega arith) in
    ap (joined front) (first-six (drop i bs) (omega (arith, length-drop i bs)))
    ∙ rw (at 0, at 1, at 2, at 3, at 4, at 5, five, first, drop-drop 6 i bs) (join-four front _ _ _ _ (sixes (drop (i + 6) bs)))

-- four stores
pub six-put : (bs old : List ℕ) (i j a b c d : ℕ) → j + flat_words ≤ length old →
    a ≡ two (get_or bs i 0) (get_or bs (i + 1) 0) → b ≡ get_or bs (i + 2) 0 → c ≡ get_or bs (i + 3) 0 → d ≡ two (get_or bs (i + 4) 0) (get_or bs (i + 4 + 1) 0) →
    set (set (set (set old j a) (j + 1) b) (j + 2) c) (j + 3) d ≡ splice old j (six_words bs i)
six-put bs old i j a b c d h p q r s = splice-node old j a b c d h ∙ rw (p, q, r, s) refl

-- how many words so many bytes give
pub record Many (bs ws : List ℕ) : Type 0 where
  pub sixth : ℕ
  pub bytes : length bs ≡ 6 * sixth
  pub words : length ws ≡ 4 * sixth

how-many : (bs ws : List ℕ) → sixes bs ≡ some ws → Many bs ws
unfolding sixes
how-many [] ws e = let p : [] ≡ ws = cc in rw (← p) (record { sixth = 0; bytes = refl; words = refl })
how-many (a ∷ []) ws e = absurd (none-some e)
how-many (a ∷ b ∷ []) ws e = absurd (none-some e)
how-many (a ∷ b ∷ c ∷ []) ws e = absurd (none-some e)
how-many (a ∷ b ∷ c ∷ m ∷ []) ws e = absurd (none-some e)
how-many (a ∷ b ∷ c ∷ m ∷ r ∷ []) ws e = absurd (none-some e)
how-many (a ∷ b ∷ c ∷ m ∷ r ∷ n ∷ bs) ws e = more (sixes bs) (how-many bs) e
  where
    more : (o : Option (List ℕ)) → ((vs : List ℕ) → o ≡ some vs → Many bs vs) → four_front (two a b) c m (two r n) o ≡ some ws → Many (a ∷ b ∷ c ∷ m ∷ r ∷ n ∷ bs) ws
    more none d e = absurd (none-some e)
    more (some vs) d e =
        let k = d vs refl in
        let p : two a b ∷ c ∷ m ∷ two r n ∷ vs ≡ ws = cc in
        rw (← p) (record { sixth = suc k.sixth; bytes = omega (arith, k.bytes); words = omega (arith, k.words) })

-- whole sixes give words, and others none
whole-sixes : (k : ℕ) (bs : List ℕ) → length bs ≡ 6 * k → Some (4 * k) ≡ offered_of (sixes bs)
unfolding sixes
whole-sixes zero [] h = refl
whole-sixes zero (b ∷ bs) h = absurd (omega arith)
whole-sixes (suc k) bs h =
    let e = whole-sixes k (drop 6 bs) (omega (arith, length-drop 6 bs)) in
    rw (first-six bs (omega arith)) (four _ _ _ _ (sixes (drop 6 bs)) e)
  where
    four : (o c m r : ℕ) (ws : Option (List ℕ)) → Some (4 * k) ≡ offered_of ws → Some (4 * suc k) ≡ offered_of (four_front o c m r ws)
    four o c m r none e = let z : ◌≡◌ {A = ℕ} 0 1 = cc in absurd (omega arith)
    four o c m r (some ws) e = let p : 4 * k ≡ length ws = cc in ap Some (omega arith)

pub words-offered : (bs : List ℕ) → (length bs ≡ 0 → ⊥) → length bs % 6 ≡ 0 → Some (length bs / 6 * 4) ≡ offered_of (words_frame bs)
unfolding words_frame
words-offered [] h g = absurd (h refl)
words-offered (b ∷ bs) h g =
    let k = length (b ∷ bs) / 6 in
    let e : k * 4 ≡ 4 * k = omega arith in
    ap Some e ∙ whole-sixes k (b ∷ bs) (omega arith)

pub no_byte : (bs : List ℕ) → length bs ≡ 0 → None ≡ offered_of (words_frame bs)
unfolding words_frame
no_byte [] h = refl
no_byte (b ∷ bs) h = absurd (omega arith)

pub no-sixes : (bs : List ℕ) → (length bs % 6 ≡ 0 → ⊥) → None ≡ offered_of (words_frame bs)
unfolding words_frame
no-sixes [] h = absurd (h refl)
no-sixes (b ∷ bs) h = by (sixes (b ∷ bs)) refl
  where
    by : (o : Option (List ℕ)) → sixes (b ∷ bs) ≡ o → None ≡ offered_of o
    by none e = refl
    by (some ws) e = let k = how-many (b ∷ bs) ws e in absurd (h (omega (arith, k.bytes)))

-- The words written so far, and those still to come.
pub record Sixing (bs old new : List ℕ) (i j : ℕ) : Type 0 where
  pub front : List ℕ
  pub sixth : ℕ
  pub bytes : i ≡ 6 * sixth
  pub words : j ≡ 4 * sixth
  pub long : length front ≡ j
  pub within : j ≤ length old
  pub written : new ≡ splice old 0 front
  pub goes : joined front (sixes (drop i bs)) ≡ words_frame bs

-- what holds of the whole
pub record Whole (bs old : List ℕ) : Type 0 where
  pub sixth : ℕ
  pub bytes : length bs ≡ 6 * sixth
  pub words : length old ≡ 4 * sixth
  pub is : sixes bs ≡ words_frame bs

pub holds-whole : (bs old : List ℕ) → Holds bs (length old) → Whole bs old
unfolding words_frame
holds-whole [] old h = let z : ◌≡◌ {A = ℕ} 0 1 = cc in absurd (omega arith)
holds-whole (b ∷ bs) old h = by (sixes (b ∷ bs)) refl h
  where
    by : (o : Option (List ℕ)) → sixes (b ∷ bs) ≡ o → offered_of o ≡ Some (length old) → Whole (b ∷ bs) old
    by none e d = let z : ◌≡◌ {A = ℕ} 0 1 = cc in absurd (omega arith)
    by (some ws) e d =
        let p : length ws ≡ length old = cc in
        let k = how-many (b ∷ bs) ws e in
        record { sixth = k.sixth; bytes = k.bytes; words = sym p ∙ k.words; is = refl }

pub sixing-at : {bs old new : List ℕ} {i j i' j' : ℕ} → i ≡ i' → j ≡ j' → Sixing bs old new i j → Sixing bs old new i' j'
sixing-at e d s = rw (← e, ← d) s

join-nothing : (o : Option (List ℕ)) → joined [] o ≡ o
join-nothing none = refl
join-nothing (some ws) = refl

module _ {bs old : List ℕ} (w : Whole bs old) where
  pub sixing-start : Sixing bs old old 0 0
  sixing-start = record {
    front = [];
    sixth = 0;
    bytes = refl;
    words = refl;
    long = refl;
    within = omega arith;
    written = sym (splice-none old 0);
    goes = join-nothing (sixes bs) ∙ w.is;
  }

  pub sixing-length : {new : List ℕ} {i j : ℕ} → Sixing bs old new i j → length new ≡ length old
  sixing-length s = ap length s.written ∙ length-splice old 0 s.front (omega (arith, s.long, s.within))

  pub sixing-room : {new : List ℕ} {i j : ℕ} → Sixing bs old new i j → j < length new →
      (i + 6 ≤ length bs) × (j + flat_words ≤ length new)
  sixing-room {new} {i} {j} s h =
      let l = sixing-length s in
      (omega (arith, w.bytes, w.words, s.bytes, s.words), omega (arith, w.words, s.words))

  pub sixing-more : {new new' : List ℕ} {i j : ℕ} → Sixing bs old new i j → j < length new → new' ≡ splice new j (six_words bs i) →
      Sixing bs old new' (i + 6) (j + 4)
  sixing-more {new} {new'} {i} {j} s h e =
      let r = sixing-room s h in
      let four = six_words bs i in
      let there : j ≡ 0 + length s.front = omega (arith, s.long) in
      record {
        front = s.front ++ four;
        sixth = suc s.sixth;
        bytes = omega (arith, s.bytes);
        words = omega (arith, s.words);
        long = omega (arith, length-append s.front four, s.long);
        within = omega (arith, r.1, sixing-length s);
        written =
            e
            ∙ ap₂ (λ (l : List ℕ) (k : ℕ). splice l k four) s.written there
            ∙ splice-more old 0 s.front four (omega (arith, s.long, s.within));
        goes = sym (six-at bs s.front i r.0) ∙ s.goes;
      }

  pub sixing-done : {new : List ℕ} {i j : ℕ} → Sixing bs old new i j → length new ≤ j → words_frame bs ≡ some new
  unfolding sixes
  sixing-done {new} {i} {j} s h =
      let l = sixing-length s in
      let none_left : drop i bs ≡ [] = drop_of_length-le bs {i = i} (omega (arith, w.bytes, w.words, s.bytes, s.words, s.within)) in
      let all : new ≡ s.front = s.written ∙ splice_all old s.front (omega (arith, s.long, s.within)) in
      sym s.goes ∙ ap (λ (b : List ℕ). joined s.front (sixes b)) none_left ∙ ap some (append-nil s.front ∙ sym all)

-- a frame holds no other words
pub one-words : {ws vs : List ℕ} → some ws ≡ some vs → ws ≡ vs
one-words e = cc
