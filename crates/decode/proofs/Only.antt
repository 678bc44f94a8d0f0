-- No second outcome fits: two results and two slots or areas that meet a public contract of this crate, for the same arguments, are equal.
use mathlib.Core.Bool.{Bool}
use mathlib.Core.Path.{◌≡◌, sym, ◌∙◌}
use contract.Lifetimes.{Lfts}
use Rattle.std.proofs.Common.{ℕ, Option}
use Rattle.model.specs.declared.NodeNo.{NodeNo}
use Rattle.decode.proofs.Asked.{one-words}
use Rattle.decode.proofs.put_node.Reads as put-node
use Rattle.decode.proofs.put_rule.Reads as put-rule
use Rattle.decode.proofs.put_connection.Reads as put-connection
use Rattle.decode.proofs.pair_of.Reads as pair_of
use Rattle.decode.proofs.words_in.Reads as words-in
use Rattle.decode.proofs.put_words.Reads as put-words

-- the result, and the slot, the second argument of each
put-node-only : (κs : Lfts 2) (a s s' : _) (r r' : Bool) → put-node.Post κs a r s → put-node.Post κs a r' s' →
    (r ≡ r') × (s.1.0.now ≡ s'.1.0.now)
put-node-only κs a s s' r r' p q = (p.0 ∙ sym q.0, p.1 ∙ sym q.1)

put-rule-only : (κs : Lfts 2) (a s s' : _) (r r' : Bool) → put-rule.Post κs a r s → put-rule.Post κs a r' s' →
    (r ≡ r') × (s.1.0.now ≡ s'.1.0.now)
put-rule-only κs a s s' r r' p q = (p.0 ∙ sym q.0, p.1 ∙ sym q.1)

put-connection-only : (κs : Lfts 2) (a s s' : _) (r r' : Bool) → put-connection.Post κs a r s → put-connection.Post κs a r' s' →
    (r ≡ r') × (s.1.0.now ≡ s'.1.0.now)
put-connection-only κs a s s' r r' p q = (p.0 ∙ sym q.0, p.1 ∙ sym q.1)

pair-of-only : (κs : Lfts 1) (a s s' : _) (r r' : Option (NodeNo × NodeNo)) → pair_of.Post κs a r s → pair_of.Post κs a r' s' → r ≡ r'
pair-of-only κs a s s' r r' p q = p ∙ sym q

words-in-only : (κs : Lfts 1) (a s s' : _) (r r' : Option ℕ) → words-in.Post κs a r s → words-in.Post κs a r' s' → r ≡ r'
words-in-only κs a s s' r r' p q = p ∙ sym q

-- the area, its second argument
put-words-only : (κs : Lfts 2) (a s s' r r' : _) → put-words.Post κs a r s → put-words.Post κs a r' s' → s.1.0.now ≡ s'.1.0.now
put-words-only κs a s s' r r' p q = one-words (sym p ∙ q)
