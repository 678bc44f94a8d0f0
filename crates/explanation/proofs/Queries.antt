-- A query, refusal by refusal, and what its area holds then.
-- Assumes nothing.
use Prim.Native.Nat.{ℕ, ◌-◌, ◌/◌, ◌≤◌, ◌<◌}
use mathlib.Core.Bool.{Bool, true, false, ◌||◌, or-true}
use mathlib.Core.List.{List, ◌++◌}
use mathlib.Core.Path.{◌≡◌, refl, sym, ap, ◌∙◌}
use native.Mathlib.Omega.{arith}
use borrow.Author.Tests.{lt-ltb, le-ltb, ltb-false}
use lib.Dec.{ltb}
use lib.ListN.{length, take, replicate}
use Rattle.std.proofs.Common.{Ok, Err}
use Rattle.model.specs.declared.Written.{Written}
use Rattle.laws.proofs.Handed.{same_ok, ok_err}
use Rattle.model.specs.Query.{written}
use Rattle.model.specs.declared.Refusal.{Refusal}
use Rattle.model.specs.declared.Refusal.TheVariants.{NoRoom}
use Rattle.model.specs.declared.Connection.{Connection}
use Rattle.model.specs.Limits.{word_limit}
use Rattle.model.specs.Judged.{Judged, judgement_of}
use Rattle.model.specs.Node.{Node}
use Rattle.model.specs.Term.{words}
use Rattle.model.specs.Flat.{flat_proof, needed}
use Rattle.model.specs.Query.{Measured}
use Rattle.model.specs.Query.{Tables, proof_words, measure, written_if, answer_to, answer, area_after}
use Rattle.model.specs.Tables.{connection_words, answer_by, area_of}
use Rattle.laws.proofs.Judging.{faulty-bad}
use Rattle.paths.proofs.Laws.{joined-yes}
use Rattle.entries.specs.Nodes.{NodesWhole, nodes_of}
use Rattle.entries.specs.Connections.{Supported}
use Rattle.forest.specs.Rows.{connections_of}
use Rattle.costs.specs.Costs.{nodes_in, Between}
use Rattle.flat.proofs.FlatProof.{needed-words}
use Rattle.flat.proofs.Tables.{table-nodes}
use Rattle.needs.specs.Needs.{held_words}

-- words by held counts: past the limit only where those that are needed are
pub needed-over : (ns : List Node) (cs : List Connection) (l r : ℕ) → word_limit < held_words ns cs l r → word_limit < needed ns cs l r
unfolding needed
needed-over ns cs l r h = omega arith

-- the flat proof has the words that are needed
pub proof-long : {nws cws : List ℕ} {l r : ℕ} → NodesWhole nws → Supported nws (nodes_in nws) cws (length cws / connection_words) → Between nws cws l r →
    length (words (flat_proof (nodes_of nws) (connections_of cws) l r)) ≡ needed (nodes_of nws) (connections_of cws) l r
proof-long {nws} {cws} {l} {r} w s b =
    needed-words (nodes_of nws) (connections_of cws) (table-nodes nws (nodes_of nws) w.is) s.accepted l r (joined-yes (connections_of cws) l r b.same)

-- an area that is cleared whole
pub cleared : (ws : List ℕ) (area : ℕ) → length ws ≡ area → take 0 ws ++ replicate (length ws - 0) 0 ≡ replicate area 0
cleared ws area e = let h : length ws - 0 ≡ area = omega (arith, e) in ap (λ (k : ℕ). replicate {A = ℕ} k 0) h

-- tables that are refused
module _ (j : Judged Tables) (area l r : ℕ) (n : Refusal) (e : Err n ≡ judgement_of j) where
  pub unanswered : Err n ≡ answer_by j area l r
  unanswered = rw (faulty-bad j n e) refl

  pub unlent : replicate area 0 ≡ area_of j area l r
  unlent = rw (faulty-bad j n e) refl

module _ (t : Tables) (area l r : ℕ) where
  -- 8, 9, 10
  pub not-measured : (n : Refusal) → Err n ≡ measure t l r → Err n ≡ answer t area l r
  unfolding answer
  not-measured n e = rw (sym e) refl

  -- 11
  full : (d : ℕ) → Ok d ≡ measure t l r → (ltb area (needed t.nodes t.conns l r) || ltb word_limit (needed t.nodes t.conns l r)) ≡ true →
      Err NoRoom ≡ answer t area l r
  unfolding answer
  full d e p = rw (sym e) (rw p refl)

  pub past-limit : (d : ℕ) → Ok d ≡ measure t l r → word_limit < needed t.nodes t.conns l r → Err NoRoom ≡ answer t area l r
  past-limit d e h =
      full d e (ap (λ (b : Bool). ltb area (needed t.nodes t.conns l r) || b) (lt-ltb _ _ h) ∙ or-true (ltb area (needed t.nodes t.conns l r)))

  pub past-area : (d : ℕ) → Ok d ≡ measure t l r → area < needed t.nodes t.conns l r → Err NoRoom ≡ answer t area l r
  past-area d e h = full d e (ap (λ (b : Bool). b || ltb word_limit (needed t.nodes t.conns l r)) (lt-ltb _ _ h))

  -- and the answer
  pub fits : (d w : ℕ) → Ok d ≡ measure t l r → w ≡ needed t.nodes t.conns l r → w ≤ area → w ≤ word_limit →
      Ok (written d w) ≡ answer t area l r
  unfolding answer
  fits d w e p a b = rw (sym e) (rw (← p) (rw (le-ltb area w a, le-ltb word_limit w b) refl))

  -- what is written fits
  pub written-fits : (w : Written) → Ok w ≡ answer t area l r → w.words ≤ area
  unfolding answer
  written-fits w e = by (measure t l r) e
    where
      need : ℕ
      need = needed t.nodes t.conns l r

      within : (d : ℕ) (a b : Bool) → ltb area need ≡ a → Ok w ≡ written_if (a || b) d need → w.words ≤ area
      within d true b p q = absurd (ok_err q)
      within d false true p q = absurd (ok_err q)
      within d false false p q =
          let z : w.words ≡ need = ap (λ (x : Written). x.words) (same_ok q) in omega (arith, z, ltb-false area need p)

      by : (m : Measured) → Ok w ≡ answer_to m t area l r → w.words ≤ area
      by (Err n) q = absurd (ok_err q)
      by (Ok d) q = within d (ltb area need) (ltb word_limit need) refl q

  -- what the area holds then
  pub area-written : (w : Written) (ws after : List ℕ) → Ok w ≡ answer t area l r → take w.words ws ≡ proof_words t l r → length ws ≡ area →
      after ≡ take w.words ws ++ replicate (length ws - w.words) 0 → after ≡ area_after t area l r
  unfolding area_after
  area-written w ws after e p n q =
      q
      ∙ ap (λ (k : ℕ). take w.words ws ++ replicate (k - w.words) 0) n
      ∙ rw (sym e) (ap (λ (x : List ℕ). x ++ replicate (area - w.words) 0) p)

  pub area-refused : (n : Refusal) → Err n ≡ answer t area l r → replicate area 0 ≡ area_after t area l r
  unfolding area_after
  area-refused n e = rw (sym e) refl
