-- What a listener has half sent of a message: its parts so far, under the message's NAME or as nobody's, or nothing.
use Rattle.std.proofs.Common.{◌≡◌, ◌⊎◌, ℕ, suc, ◌<◌, ◌≤◌, Bool, true, false, not, ◌&&◌, ◌||◌, ◌==◌, length, take, Option, Some, None, if◌then◌else◌, sym, refl, ap, ◌∙◌, subst, inl, inr, arith}
use Rattle.dm_messages.specs.View.{pgn_of_kind}
use Rattle.parameter_group.specs.Group.{AddressClaimed, ConnectionManagement, Group}
use Rattle.transport.specs.Pieces.{packet, pieces}
use Rattle.transport.specs.declared.control.Control.TheVariants.{Abort}
use Rattle.reassembly.specs.Partials.{after_packet, is_whole, unfinished, with_packet}
use Rattle.bus_model.specs.Heard.{kind_of}
use Rattle.bus_model.specs.Messages.{Message, payload_sent}
use Rattle.bus_model.specs.Overheard.{HalfSent, between_after, is_pair, kept_by_name, newly_sent, who_at}
use Rattle.bus_model.specs.OverheardExpected.{is_aborted}
use Rattle.bus_model.specs.declared.who.Who.{Who}
use Rattle.bus_model.specs.declared.who.Who.TheVariants.{Named, Unclaimed}
use Rattle.bus_model.proofs.Bridge.{count_of, count_taken, kind_back, next_is, next_pieces}
use Rattle.bus_model.proofs.Lawful.{is_foreign}
use Rattle.bus_model.proofs.Lookback.{ne_test}

-- the parts of a message up to the j-th, under whomever
abbrev pub parts_under : Who → Message → ℕ → HalfSent
parts_under w m j = record { tag = record { who = w; kind = m.kind }; size = length (payload_sent m); pieces = take j (pieces (payload_sent m)) }

-- under that NAME where b, and else as nobody's
abbrev pub IsUnder : ℕ → Bool → Who → Type 0
IsUnder n b w = (a : ℕ) × (gaps : ℕ) × (w ≡ who_at (if b then Some n else None) a gaps)

-- the parts up to the j-th: where b under the message's NAME, and else as nobody's, or nothing
abbrev pub IsSoFar : Message → ℕ → Bool → Option HalfSent → Type 0
IsSoFar m j b o = ((b ≡ false) × (o ≡ None)) ⊎ ((w : Who) × IsUnder m.name b w × (o ≡ unfinished (Some (parts_under w m j))))

pub whole_at : (w : Who) (m : Message) (j : ℕ) → j ≤ count_of m → is_whole (parts_under w m j) ≡ (j == count_of m)
whole_at w m j le = rw (count_taken m j le) refl

pub open_at : (w : Who) (m : Message) (j : ℕ) → j < count_of m → unfinished (Some (parts_under w m j)) ≡ Some (parts_under w m j)
open_at w m j l = rw (whole_at w m j (omega arith), ne_test j (count_of m) (omega arith)) refl

pub next_at : (w : Who) (m : Message) (j : ℕ) → j < count_of m → with_packet (packet (payload_sent m) (suc j)) (unfinished (Some (parts_under w m j))) ≡ Some (parts_under w m (suc j))
next_at w m j l = rw (open_at w m j l, next_is m j l, next_pieces m j l) refl

-- the announcement
pub begins : (m : Message) (b : Bool) (a gaps : ℕ) → 0 < count_of m → IsSoFar m 0 b (newly_sent (kind_of (pgn_of_kind m.kind)) (length (payload_sent m)) (who_at (if b then Some m.name else None) a gaps))
begins m b a gaps l =
    let who : Who = who_at (if b then Some m.name else None) a gaps in
    inr (who, (a, gaps, refl), rw (kind_back m.kind) (sym (open_at who m 0 l)))

-- the next packet
pub goes_on : (m : Message) (j : ℕ) (b : Bool) (o : Option HalfSent) → j < count_of m → IsSoFar m j b o → IsSoFar m (suc j) b (after_packet (packet (payload_sent m) (suc j)) o)
goes_on m j b o l h =
    elim h [
      | inl e ↦ inl (e.0, ap more e.1)
      | inr w ↦ inr (w.0, w.1, ap more w.2 ∙ ap (λ (v : Option HalfSent). unfinished v) (next_at w.0 m j l))
    ]
  where
    more : Option HalfSent → Option HalfSent
    more v = after_packet (packet (payload_sent m) (suc j)) v

-- ---- a frame of another

-- it neither begins nor goes on with what goes from the message's source to d, claims the source under no other NAME, and aborts it only as
-- the receiver
abbrev pub IsBystander : Message → ℕ → Group → Type 0
IsBystander m d (AddressClaimed s n) = is_foreign m.name m.source (AddressClaimed s n) ≡ false
IsBystander m d (ConnectionManagement s e (Abort reason pgn)) =
    ((is_pair m.source d s e || is_pair d m.source s e) && not (d == 255)) ≡ is_aborted m (ConnectionManagement s e (Abort reason pgn))
IsBystander m d f = (who : Who) (o : Option HalfSent) → between_after m.source d f who o ≡ o

-- a claim under the message's NAME leaves what is under that, and nothing of what is nobody's
under_claim : (m : Message) (j n : ℕ) (b : Bool) (w : Who) → (n == m.name) ≡ true → IsUnder m.name b w → IsSoFar m j b (kept_by_name n (unfinished (Some (parts_under w m j))))
under_claim m j n b w own u = by_whole b u (is_whole (parts_under w m j))
  where
    same : (t : Bool) → w ≡ Named m.name → kept_by_name n (if t then None else Some (parts_under w m j)) ≡ (if t then None else Some (parts_under w m j))
    same true q = refl
    same false q = rw (q, own) refl

    none : (t : Bool) (a gaps : ℕ) → w ≡ Unclaimed a gaps → kept_by_name n (if t then None else Some (parts_under w m j)) ≡ None
    none true a gaps q = refl
    none false a gaps q = rw q refl

    by_whole : (b : Bool) → IsUnder m.name b w → (t : Bool) → IsSoFar m j b (kept_by_name n (unfinished (Some (parts_under w m j))))
    by_whole true u t = inr (w, u, same (is_whole (parts_under w m j)) u.2)
    by_whole false u t = inl (refl, none (is_whole (parts_under w m j)) u.0 u.1 u.2)

kept_at_claim : (m : Message) (j n : ℕ) (b : Bool) (o : Option HalfSent) (t u : Bool) → (n == m.name) ≡ u → t && not u ≡ false → IsSoFar m j b o → IsSoFar m j b (if t then kept_by_name n o else o)
kept_at_claim m j n b o false u i h s = s
kept_at_claim m j n b o true false i h s = cc
kept_at_claim m j n b o true true i h s = elim s [
  | inl e ↦ inl (e.0, ap (kept_by_name n) e.1)
  | inr w ↦ subst (λ (v : Option HalfSent). IsSoFar m j b (kept_by_name n v)) (sym w.2) (under_claim m j n b w.0 i w.1)
]

pub stays : (m : Message) (j d : ℕ) (f : Group) (who : Who) (b : Bool) (o : Option HalfSent) → IsBystander m d f → IsSoFar m j b o → IsSoFar m j (not (is_aborted m f) && b) (between_after m.source d f who o)
stays m j d (AddressClaimed s n) who b o h so_far = kept_at_claim m j n b o (s == m.source) (n == m.name) refl h so_far
stays m j d (ConnectionManagement s e (Abort reason pgn)) who b o h so_far =
    subst (λ (t : Bool). IsSoFar m j (not (is_aborted m (ConnectionManagement s e (Abort reason pgn))) && b) (if t then None else o)) (sym h)
    (by_abort (is_aborted m (ConnectionManagement s e (Abort reason pgn))))
  where
    by_abort : (t : Bool) → IsSoFar m j (not t && b) (if t then None else o)
    by_abort true = inl (refl, refl)
    by_abort false = so_far
stays m j d f who b o h so_far = subst (IsSoFar m j b) (sym (h who o)) so_far
