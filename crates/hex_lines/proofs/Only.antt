-- No second outcome fits: two results and two rooms that meet a public contract of this crate, for the same arguments, are equal.
use mathlib.Core.Bool.{Bool}
use mathlib.Core.Path.{◌≡◌, sym, ◌∙◌}
use contract.Lifetimes.{Lfts}
use Rattle.hex_lines.proofs.is_line.Reads as is-line
use Rattle.hex_lines.proofs.put_bytes.Reads as put-bytes

is-line-only : (κs : Lfts 1) (a s s' : _) (r r' : Bool) → is-line.Post κs a r s → is-line.Post κs a r' s' → r ≡ r'
is-line-only κs a s s' r r' p q = p ∙ sym q

-- the bytes, its second argument
put-bytes-only : (κs : Lfts 2) (a s s' r r' : _) → put-bytes.Post κs a r s → put-bytes.Post κs a r' s' → s.1.0.now ≡ s'.1.0.now
put-bytes-only κs a s s' r r' p q = p ∙ sym q
