-- AN ENTRY IN WORDS AND IN ITS FRAME IS THE SAME ENTRY: what is read of the bytes is what is read of the words, refused ones too.
use Prim.Native.Nat.{ℕ, zero, suc, ◌+◌, ◌*◌}
use mathlib.Core.Bool.{Bool, true, false, ◌&&◌}
use mathlib.Core.List.{List, [], ◌∷◌}
use mathlib.Core.Option.{some}
use mathlib.Core.Path.{◌≡◌, refl, ap}
use native.Mathlib.Nat.{div-add-mod'}
use borrow.Author.Tests.{eq-eqb}
use lib.Dec.{leb}
use lib.ListN.{length, get_or}
use Rattle.model.specs.Limits.{child_limit}
use Rattle.model.specs.Tables.{children_at, node_words, connection_words, next_at, why_at, by_rule_at, forward_at, only_if, words_from, node_at, node_entry, why_of, connection_of, connection_entry}
use Rattle.model.specs.Frame.{two, twos, node_frame, connection_frame}
use Rattle.layouts.specs.Bytes.{high, low, pairs, bytes_if, node_bytes, connection_bytes}

-- two bytes are their word
pub word : (n : ℕ) → two (high n) (low n) ≡ n
word n = div-add-mod' n 256

pairs-words : (ns : List ℕ) → twos (pairs ns) ≡ some ns
unfolding twos pairs
pairs-words [] = refl
pairs-words (n ∷ ns) = rw (pairs-words ns, word n) refl

words-from-length : (ws : List ℕ) (at n : ℕ) → length (words_from ws at n) ≡ n
unfolding words_from
words-from-length ws at zero = refl
words-from-length ws at (suc n) = ap suc (words-from-length ws (suc at) n)

pub node-frame : (ws : List ℕ) (i : ℕ) → node_frame (node_bytes ws i) ≡ node_entry ws i
unfolding node_frame node_bytes node_entry node_at
node-frame ws i = by (leb (i * node_words + node_words) (length ws))
  where
    o : ℕ
    o = get_or ws (i * node_words) 0

    c : ℕ
    c = get_or ws (i * node_words + 1) 0

    ks : List ℕ
    ks = words_from ws (i * node_words + children_at) c

    by : (b : Bool) → node_frame (bytes_if b (high o ∷ low o ∷ c ∷ pairs ks)) ≡ only_if (b && leb c child_limit) (some (record { op = o; kids = ks }))
    by false = refl
    by true = rw (pairs-words ks, word o, eq-eqb (length ks) c (words-from-length ws (i * node_words + children_at) c)) refl

pub connection-frame : (ws : List ℕ) (i : ℕ) → connection_frame (connection_bytes ws i) ≡ connection_entry ws i
unfolding connection_frame connection_bytes connection_entry
connection-frame ws i = by (leb (i * connection_words + connection_words) (length ws))
  where
    c : ℕ
    c = get_or ws (i * connection_words) 0

    n : ℕ
    n = get_or ws (i * connection_words + next_at) 0

    k : ℕ
    k = get_or ws (i * connection_words + why_at) 0

    r : ℕ
    r = get_or ws (i * connection_words + by_rule_at) 0

    f : ℕ
    f = get_or ws (i * connection_words + forward_at) 0

    by : (b : Bool) → connection_frame (bytes_if b (high c ∷ low c ∷ high n ∷ low n ∷ k ∷ high r ∷ low r ∷ f ∷ [])) ≡ only_if b (connection_of c n (why_of k r f))
    by false = refl
    by true = rw (word c, word n, word r) refl
