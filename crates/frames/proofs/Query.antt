-- A query: its text fits the room, and is what its answer over the counted entries prints.
use Prim.Native.Nat.{ℕ, ◌+◌, ◌*◌, ◌≤◌, ◌<◌}
use mathlib.Core.List.{List, ◌++◌, append_assoc}
use mathlib.Core.Option.{Option, none, some}
use mathlib.Core.Path.{◌≡◌, refl, sym, ap, ap₂, subst, subst₂, ◌∙◌}
use native.Mathlib.Omega.{arith}
use lib.ListN.{length, take, get_or, length-append}
use lib.Seq.{length-take-le, get_or-take, take_at}
use Rattle.std.proofs.Common.{Some, None, Ok, Err}
use Rattle.std.specs.Prelude.{Option as Found}
use Rattle.model.specs.declared.Refusal.TheVariants.{NoEntry}
use Rattle.model.specs.declared.NodeNo.{NodeNo}
use Rattle.model.specs.Limits.{program_area}
use Rattle.model.specs.Judged.{good}
use Rattle.model.specs.Term.{Reads}
use Rattle.model.specs.Text.{bytes, digits, lines}
use Rattle.model.specs.Node.{Node}
use Rattle.model.specs.Tables.{node_words, connection_words}
use Rattle.model.specs.Query.{Tables, proof_of, proof_words, Answer, answer, area_by, area_after}
use Rattle.model.specs.Frame.{NodePair}
use Rattle.model.specs.Run.{State, answer_text, queried}
use Rattle.letters.proofs.Digits.{all_digits}
use Rattle.laws.specs.Area.{splice}
use Rattle.laws.proofs.Area.{splice-more}
use Rattle.reports.specs.Reports.{distance_text}
use Rattle.text.specs.Lines.{lines_of}
use Rattle.text.proofs.Lined.{lines-bound, lines-say}
use Rattle.paths.specs.Hangs.{AcceptedConnections}
use Rattle.paths.proofs.Joined.{joined-linked}
use Rattle.entries.specs.Nodes.{nodes_to, nodes_of}
use Rattle.entries.specs.Connections.{connections_to}
use Rattle.forest.specs.Rows.{connections_of}
use Rattle.flat.specs.Nodes.{AcceptedNodes}
use Rattle.flat.specs.Accepted.{AcceptedTables}
use Rattle.flat.proofs.FlatProof.{narrow}
use Rattle.flat.proofs.Tables.{table-nodes}
use Rattle.explanation.specs.Query.{Responds}
use Rattle.explanation.proofs.Answers.{is-written, answered as written}
use Rattle.decode.specs.Asked.{pair_of}
use Rattle.frames.specs.declared.Counts.{Counts}
use Rattle.frames.specs.declared.Store.{Store}
use Rattle.frames.specs.State.{Stands, text_room}
use Rattle.frames.specs.Step.{Step, StepIs}
use Rattle.frames.specs.Answer.{Printable, answered, reply_text, Replies}
use Rattle.frames.proofs.Front.{front-nodes, front-whole, front-connections, front-supported}
use Rattle.frames.proofs.Close.{front_of}
use Rattle.frames.proofs.Stores.{with_text}

distance-few : (d : ℕ) → length (distance_text d) ≤ 30
unfolding distance_text bytes
distance-few d = omega (arith, length-append (digits d) (bytes "\n"), all_digits d)

module _ (d w : ℕ) (area room : List ℕ) (n : length area ≡ program_area) (small : (i : ℕ) → get_or area i 0 < 65536) (h : w ≤ program_area)
    (r : length room ≡ text_room) where
  -- "28 bytes a node"
  pub answer-fits : length (distance_text d) + length (lines_of (take w area)) ≤ length room
  answer-fits =
      let l = length-take-le w area (omega arith) in
      omega (
        arith,
        distance-few d,
        l,
        lines-bound (take w area)
            (λ i k. let e = get_or-take w area i 0 (omega (arith, l)) in omega (arith, e, small i)),
      )

  -- the lines behind the distance
  pub answer-long : {at end : ℕ} → at ≡ length (distance_text d) → end ≡ at + length (lines_of (take w area)) →
      end ≡ length (distance_text d ++ lines_of (take w area))
  answer-long p q = omega (arith, p, q, length-append (distance_text d) (lines_of (take w area)))

  pub answer-put : {mid after : List ℕ} {at : ℕ} → at ≡ length (distance_text d) → mid ≡ splice room 0 (distance_text d) →
      after ≡ splice mid at (lines_of (take w area)) → after ≡ splice room 0 (distance_text d ++ lines_of (take w area))
  answer-put {at = at} p q e =
      let z : at ≡ 0 + length (distance_text d) = omega (arith, p) in
      e ∙ ap₂ (λ (s : List ℕ) (k : ℕ). splice s k (lines_of (take w area))) q z ∙ splice-more room 0 (distance_text d) (lines_of (take w area)) (omega (arith, answer-fits))

distance-lines : (d : ℕ) (x : List ℕ) → distance_text d ++ x ≡ bytes "distance " ++ (digits d ++ (bytes "\n" ++ x))
unfolding distance_text
distance-lines d x =
    append_assoc (bytes "distance ") (digits d ++ bytes "\n") x ∙ ap (λ (y : List ℕ). bytes "distance " ++ y) (append_assoc (digits d) (bytes "\n") x)

-- what the answer and the area hold is what is printed
record Said (t : Tables) (l r : ℕ) (a : Answer) (area : List ℕ) : Type 0 where
  prints : Printable a area
  text : (line : ℕ) → answered a line area ≡ answer_text t (record { left = l; right = r }) line a

says : (t : Tables) → AcceptedTables t → (l r : ℕ) (a : Answer) (area : List ℕ) → a ≡ answer t program_area l r →
    area ≡ area_after t program_area l r → Said t l r a area
unfolding answer_text area_after
says t ok l r (Err q) area e h = record { prints = tt; text = λ line. refl }
says t ok l r (Ok x) area e h =
    let d = x.distance in
    let w = x.words in
    let k = written t ok program_area l r d w (sym e) in
    let q = e ∙ is-written t l r k.known k.linked ok k.near program_area k.fits k.few in
    let n : length (proof_words t l r) ≡ w = cc in
    let there : take w area ≡ proof_words t l r =
    ap (take w) (h ∙ ap (λ (x : Answer). area_by x (proof_words t l r) program_area) (sym e)) ∙ take_at (proof_words t l r) _ w n in
    let say : Reads (take w area) (proof_of t l r) =
    record {
      narrow = narrow t.nodes t.conns ok.nodes ok.conns l r ((joined-linked t.conns l r).1 k.linked);
      spelled = there;
    } in
    record {
      prints = (omega (arith, n, k.fits), record { terms = proof_of t l r; reads = say });
      text = λ line.
          ap (λ (x : List ℕ). distance_text d ++ x) (lines-say (take w area) (proof_of t l r) say) ∙ distance-lines d (lines (proof_of t l r));
    }

-- the answer over the counted entries
pub record Replied (t : Tables) (l r : ℕ) (a : Answer) (area : List ℕ) : Type 0 where
  pub prints : Printable a area
  pub text : (line : ℕ) → answered a line area ≡ reply_text t line l r
  pub lent : area ≡ area_after t program_area l r

module _ (k : Counts) (nws cws : List ℕ) (t : Tables) (n : nodes_to nws k.nodes ≡ good t.nodes)
    (c : connections_to t.nodes cws k.connections ≡ good t.conns) where
  abbrev nodes : List ℕ
  nodes = take (k.nodes * node_words) nws

  abbrev conns : List ℕ
  conns = take (k.connections * connection_words) cws

  nodes-are : nodes_of nodes ≡ t.nodes
  nodes-are = front-nodes nws k.nodes t.nodes n

  conns-are : connections_of conns ≡ t.conns
  conns-are = front-connections nws k.nodes t.nodes n cws k.connections t.conns c

  accepted : AcceptedTables t
  accepted =
      record {
        nodes = subst AcceptedNodes nodes-are (table-nodes nodes (nodes_of nodes) (front-whole nws k.nodes t.nodes n).is);
        conns =
            subst (λ (ns : List Node). AcceptedConnections ns t.conns) nodes-are
            (subst (AcceptedConnections (nodes_of nodes)) conns-are
            (front-supported nws k.nodes t.nodes n cws k.connections t.conns c).accepted);
      }

  pub replied : {m l r : ℕ} {a : Answer} {area : List ℕ} → m ≡ program_area →
      Responds (take (k.nodes * node_words) nws) (take (k.connections * connection_words) cws) m l r a area → Replied t l r a area
  replied {m} {l} {r} {a} {area} e h =
      let x = h t (sym nodes-are) (sym conns-are) in
      let p : a ≡ answer t program_area l r = x.0 ∙ ap (λ (i : ℕ). answer t i l r) e in
      let q : area ≡ area_after t program_area l r = x.1 ∙ ap (λ (i : ℕ). area_after t i l r) e in
      let s = says t accepted l r a area p q in
      record {
        prints = s.prints;
        text = λ line. s.text line ∙ ap (answer_text t (record { left = l; right = r }) line) p;
        lent = q;
      }

-- an answer that was put is a reply, whatever stood in the room
pub replies : (k : Counts) (nws cws : List ℕ) (line l r : ℕ) (old area room : List ℕ) {m n : ℕ} {a : Answer} → m ≡ program_area →
    Responds (take (k.nodes * node_words) nws) (take (k.connections * connection_words) cws) m l r a area →
    n ≡ length (answered a line area) → room ≡ splice old 0 (answered a line area) → Replies k nws cws line l r n area old room
replies k nws cws line l r old area room e h q w t n c =
    let x = replied k nws cws t n c e h in (q ∙ ap length (x.text line), w ∙ ap (splice old 0) (x.text line), x.lent)

-- the counts behind a query
abbrev pub after_query : Counts → Counts
after_query k = record { kind = 4; nodes = k.nodes; rules = k.rules; connections = k.connections; offered = 0 }

abbrev left_of : Found (NodeNo × NodeNo) → ℕ
left_of (Some (l, r)) = l.0
left_of None = 0

abbrev right_of : Found (NodeNo × NodeNo) → ℕ
right_of (Some (l, r)) = r.0
right_of None = 0

module _ (k : Counts) (t : Store) (s : State) (h : Stands k t s) (line : ℕ) where
  pub query-wrong : (o : Option NodePair) → None ≡ pair_of o → StepIs (queried s line o) (Err NoEntry) t
  query-wrong none e = refl
  query-wrong (some p) e = let z : ◌≡◌ {A = ℕ} 0 1 = cc in absurd (omega arith)

  -- the pair that a frame says
  pub query-pair : (o : Option NodePair) {l r : NodeNo} (x : Step) (u : Store) → Some (l, r) ≡ pair_of o →
      StepIs (queried s line (some (record { left = l.0; right = r.0 }))) x u → StepIs (queried s line o) x u
  query-pair none x u e w = let z : ◌≡◌ {A = ℕ} 0 1 = cc in absurd (omega arith)
  query-pair (some p) {l} {r} x u e w =
      subst₂ (λ (a b : ℕ). StepIs (queried s line (some (record { left = a; right = b }))) x u) (ap left_of e) (ap right_of e) w

  -- a pair is answered by the text of its reply, wherever the room began
  by-text : (l r : ℕ) (old area room : List ℕ) {n : ℕ} → n ≡ length (reply_text s.tables line l r) →
      room ≡ splice old 0 (reply_text s.tables line l r) →
      StepIs (queried s line (some (record { left = l; right = r }))) (Ok (after_query k, n)) (with_text t area room)
  by-text l r old area room e w = (
    e,
    front_of old _ room e w,
    record {
      kind = refl;
      nodes = h.nodes;
      rules = h.rules;
      few = h.few;
      conns = h.conns;
      tops = h.tops;
      words = refl;
      fits = omega arith;
      fresh = λ q. absurd (omega arith);
    },
  )

  pub query-right : (o : Option NodePair) {l r : NodeNo} (old area room : List ℕ) {n : ℕ} → Some (l, r) ≡ pair_of o →
      Replies k t.nodes t.conns line l.0 r.0 n area old room → StepIs (queried s line o) (Ok (after_query k, n)) (with_text t area room)
  query-right o {l} {r} old area room e x =
      let y = x s.tables h.nodes h.conns in query-pair o _ _ e (by-text l.0 r.0 old area room y.0 y.1)

  -- the same of what an answer says
  pub pair-answered : {l r : ℕ} {a : Answer} (area room : List ℕ) {n : ℕ} → Replied s.tables l r a area →
      n ≡ length (answered a line area) → room ≡ splice t.room 0 (answered a line area) →
      StepIs (queried s line (some (record { left = l; right = r }))) (Ok (after_query k, n)) (with_text t area room)
  pair-answered {l} {r} area room x e w =
      by-text l r t.room area room (e ∙ ap length (x.text line)) (w ∙ ap (splice t.room 0) (x.text line))
