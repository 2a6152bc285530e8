-- A message that ends between two addresses is what looking back finds.
use Rattle.std.proofs.Common.{◌≡◌, ℕ, suc, ◌<◌, true, List, [], ◌∷◌, ◌++◌, length, drop, Option, Some, None, if◌then◌else◌, sym, refl, ap, ◌∙◌, subst, inl, inr, arith, length-append}
use Rattle.can_frame.specs.FrameValue.{FrameValue}
use Rattle.can_frame.specs.declared.reading.Reading.{Reading}
use Rattle.can_frame.specs.declared.reading.Reading.TheVariants.{Empty, Frame, Gap}
use Rattle.dm_messages.specs.declared.kind.Kind.{Kind}
use Rattle.parameter_group.specs.Group.{Acknowledgment, AddressClaimed, CannotClaim, ConnectionManagement, DataTransfer, Diagnostic, Group, Other, Request, group_of}
use Rattle.transport.specs.Pieces.{joined, packet_count}
use Rattle.reassembly.specs.Partials.{is_whole, with_packet}
use Rattle.bus_model.specs.LookBack.{AreNumbered, packets_heard, pieces_of}
use Rattle.bus_model.specs.Overheard.{HalfSent, MessageSent, between_heard, message_sent, sent_by, sent_whole, who_heard}
use Rattle.bus_model.specs.OverheardBack.{IsSentWhole, SentInOneFrame, SentInPackets}
use Rattle.bus_model.specs.declared.who.Who.{Who}
use Rattle.bus_model.proofs.Between.{TakenFrom, between_back, between_from, packet_added, sending, taken_from}
use Rattle.bus_model.proofs.Half.{IsNext, length_pieces_of}
use Rattle.bus_model.proofs.Lookback.{pick_cases, same_test, true_test}

-- a message that a packet finished
pub record FinishedTo (d : ℕ) (q : List ℕ) (before : Option HalfSent) (m : MessageSent) : Type 0 where
  pub old : HalfSent
  pub was : before ≡ Some old
  pub next : IsNext old.size old.pieces q
  pub all : suc (length old.pieces) ≡ packet_count old.size
  pub who : m.who ≡ old.tag.who
  pub kind : m.kind ≡ old.tag.kind
  pub to : m.to ≡ d
  pub bytes : m.bytes ≡ joined old.size (old.pieces ++ drop 1 q ∷ [])

finished_to : (d : ℕ) (q : List ℕ) (before : Option HalfSent) (m : MessageSent) → sent_whole d (with_packet q before) ≡ Some m → FinishedTo d q before m
finished_to d q before m h = go (with_packet q before) refl h
  where
    go : (o : Option HalfSent) → with_packet q before ≡ o → sent_whole d o ≡ Some m → FinishedTo d q before m
    go None i g = cc
    go (Some j) i g = at (taken_from q before j i)
      where
        at : TakenFrom q before j → FinishedTo d q before m
        at t =
            let old = t.old in
            let grown : HalfSent = record old { pieces = old.pieces ++ drop 1 q ∷ [] } in
            let whole : MessageSent = record { who = old.tag.who; kind = old.tag.kind; to = d; bytes = joined old.size (old.pieces ++ drop 1 q ∷ []) } in
            let f : (if is_whole grown then Some whole else None) ≡ Some m = subst (λ (v : HalfSent). sent_whole d (Some v) ≡ Some m) t.grown g in
            elim (pick_cases (is_whole grown) (Some whole) None (Some m) f) [
              | inl w ↦
                  (let len = length-append old.pieces (drop 1 q ∷ []) in
                  let c = true_test (length (old.pieces ++ drop 1 q ∷ [])) (packet_count old.size) w.0 in
                  let i : ◌≡◌ {A = MessageSent} whole m = cc in
                  record { old = old; was = t.was; next = t.next; all = omega arith; who = sym (ap (λ (v : MessageSent). v.who) i); kind = sym (ap (λ (v : MessageSent). v.kind) i); to = sym (ap (λ (v : MessageSent). v.to) i); bytes = sym (ap (λ (v : MessageSent). v.bytes) i) })
              | inr w ↦ cc w.1
            ]

finishes : (d : ℕ) (n : Who) (k : Kind) (size : ℕ) (q : List ℕ) (ps : List (List ℕ)) → AreNumbered (q ∷ ps) → suc (length ps) ≡ packet_count size → sent_whole d (with_packet q (Some (sending n k size ps))) ≡ Some (record { who = n; kind = k; to = d; bytes = joined size (pieces_of (q ∷ ps)) })
finishes d n k size q ps num all =
    let len = length_pieces_of (q ∷ ps) in
    let t : is_whole (sending n k size (q ∷ ps)) ≡ true = (let e : length (pieces_of (q ∷ ps)) ≡ packet_count size = len ∙ all in rw e (same_test (packet_count size))) in
    rw (packet_added n k size q ps num (omega arith), t) refl

message_is : (m : MessageSent) (w : Who) (k : Kind) (d : ℕ) (bytes : List ℕ) → m.who ≡ w → m.kind ≡ k → m.to ≡ d → m.bytes ≡ bytes → record { who = w; kind = k; to = d; bytes = bytes } ≡ m
message_is m w k d bytes a b c e = (let f : Who → Kind → ℕ → List ℕ → MessageSent = λ x y z u. record { who = x; kind = y; to = z; bytes = u } in let g : f w k d bytes ≡ f m.who m.kind m.to m.bytes = cc in g)

packets_back : (f : FrameValue) (older : List Reading) (m : MessageSent) (s d : ℕ) (q : List ℕ) → group_of f ≡ DataTransfer s d q → sent_whole d (with_packet q (between_heard s d older)) ≡ Some m → SentInPackets f older m
packets_back f older m s d q g h =
    let t = finished_to d q (between_heard s d older) m h in
    let b = between_back s d older t.old t.was in
    let ps = packets_heard s d b.since in
    let len : length t.old.pieces ≡ length ps = ap (λ (v : List (List ℕ)). length v) b.pieces ∙ length_pieces_of ps in
    let bytes : List ℕ = joined t.old.size (t.old.pieces ++ drop 1 q ∷ []) in
    let here : SentInPackets f older (record { who = t.old.tag.who; kind = t.old.tag.kind; to = d; bytes = bytes }) = record {
      source = s;
      size = t.old.size;
      pgn = b.pgn;
      packet = q;
      last = g;
      since = b.since;
      start = b.start;
      before = b.before;
      split = b.split;
      starts = b.starts;
      kind = b.kind;
      who = b.who;
      quiet = b.quiet;
      numbered = (t.next.len, t.next.number ∙ ap suc len, b.numbered);
      all = ap suc (sym len) ∙ t.all;
      payload = ap (λ (v : List (List ℕ)). joined t.old.size (v ++ drop 1 q ∷ [])) b.pieces;
    } in
    subst (SentInPackets f older) (message_is m t.old.tag.who t.old.tag.kind d bytes t.who t.kind t.to t.bytes) here

pub sent_back : (x : Reading) (older : List Reading) (m : MessageSent) → message_sent x older ≡ Some m → IsSentWhole x older m
sent_back (Gap n) older m h = cc
sent_back Empty older m h = cc
sent_back (Frame f) older m h = go (group_of f) refl h
  where
    go : (g : Group) → group_of f ≡ g → sent_by g older ≡ Some m → IsSentWhole (Frame f) older m
    go (Diagnostic k s bytes) i h =
        let q : ◌≡◌ {A = MessageSent} (record { who = who_heard s older; kind = k; to = 255; bytes = bytes }) m = cc in
        inl (subst (SentInOneFrame f older) q (record { source = s; says = i; to = refl; who = refl }))
    go (DataTransfer s d q) i h = inr (packets_back f older m s d q i h)
    go (AddressClaimed s n) i h = cc
    go (CannotClaim n) i h = cc
    go (Request p d s) i h = cc
    go (Acknowledgment c q p d s) i h = cc
    go (ConnectionManagement s d c) i h = cc
    go Other i h = cc

one_sent : (f : FrameValue) (older : List Reading) (m : MessageSent) → SentInOneFrame f older m → sent_by (group_of f) older ≡ Some m
one_sent f older m h = rw h.says (ap Some (message_is m (who_heard h.source older) m.kind 255 m.bytes h.who refl h.to refl))

packets_sent : (f : FrameValue) (older : List Reading) (m : MessageSent) → SentInPackets f older m → sent_by (group_of f) older ≡ Some m
packets_sent f older m h =
    let l : length (packets_heard h.source m.to h.since) < packet_count h.size = (let a = h.all in omega arith) in
    let b : between_heard h.source m.to older ≡ Some (sending m.who m.kind h.size (packets_heard h.source m.to h.since)) =
    ap (between_heard h.source m.to) h.split ∙ between_from h.source m.to m.who m.kind h.size h.pgn h.start h.since h.before h.starts h.kind (sym h.who) h.quiet h.numbered.2 l in
    rw (h.last, b) (finishes m.to m.who m.kind h.size h.packet (packets_heard h.source m.to h.since) h.numbered h.all ∙ ap Some (message_is m m.who m.kind m.to (joined h.size (pieces_of (h.packet ∷ packets_heard h.source m.to h.since))) refl refl refl h.payload))

pub sent_from : (x : Reading) (older : List Reading) (m : MessageSent) → IsSentWhole x older m → message_sent x older ≡ Some m
sent_from (Gap n) older m h = absurd h
sent_from Empty older m h = absurd h
sent_from (Frame f) older m h = elim h [ inl o ↦ one_sent f older m o | inr p ↦ packets_sent f older m p ]
