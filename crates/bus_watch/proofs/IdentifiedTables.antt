-- What is half read of identifications, where nothing is, and after one change.
use Rattle.std.proofs.Common.{◌≡◌, ◌≤◌, length, arith, ◌==◌, ◌&&◌, ℕ, Bool, true, false, not, List, Option, Some, None, if◌then◌else◌, refl, sym, ap, ◌∙◌, ⊎_elim}
use Rattle.std.specs.List.{position}
use Rattle.std.specs.Prelude.{IfSome, slice_set}
use Rattle.std.proofs.lemmas.List.Quantifiers.{position-Some}
use Rattle.std.proofs.lemmas.List.{set-get_or, get_or-replicate, get_or_past}
use Rattle.std.proofs.lemmas.Bool.{cases_lt}
use Rattle.bus_model.specs.Overheard.{HalfSent}
use Rattle.bus_model.specs.declared.who.Who.{Who}
use Rattle.dm_words.specs.Identification.{identification_of}
use Rattle.dm_words.specs.declared.identification.Identification.{Identification}
use Rattle.can_frame.specs.declared.address.TheConstants.{GLOBAL_ADDRESS}
use Rattle.reassembly.specs.Pacing.{fate_of, is_over_if, lets_come_if, packet_number, paced, step_of, was_read}
use Rattle.reassembly.specs.Pairs.{no_pairs, pair_at, pairs_from, with_pair}
use Rattle.reassembly.specs.Partials.{PartialValue, after_packet, answer_to, begun, is_whole, took_by, unfinished, with_packet}
use Rattle.reassembly.specs.TableLaws.{at-empty, pair_restored, written_back}
use Rattle.reassembly.specs.Tables.{at, empty_table}
use Rattle.reassembly.specs.declared.paces.Fate.{Fate}
use Rattle.reassembly.specs.declared.paces.Fate.TheVariants.{Again, Late, Read}
use Rattle.reassembly.specs.declared.pacing.Pace.{Pace}
use Rattle.reassembly.specs.declared.pacing.Silence.{Silence}
use Rattle.transport.specs.Pieces.{joined}
use Rattle.transport.specs.declared.control.Control.{Control}
use Rattle.transport.specs.declared.control.Control.TheVariants.{Abort, Bam, Cts, EndAck, Rts}
use Rattle.transport.specs.declared.took.Took.TheVariants.{More, Whole, Broken}
use Rattle.bus_watch.specs.Runs.{is_of_name}
use Rattle.bus_watch.specs.Identified.{HalfTold, IdentifiedValue, announced_by, ends_vin, front_length, halves_claimed, halves_managed, newly_told, packet_by, packet_to, read_to, text_announced, text_of, with_told}
use Rattle.bus_watch.specs.declared.text_list.UnitText.{UnitText}
use Rattle.bus_watch.specs.declared.watch.identified.AnnouncedText.{AnnouncedText}
use Rattle.bus_watch.specs.declared.watch.identified.TextPacket.{TextPacket}

-- a identification ends within its payload
pub end_within : (bytes : List ℕ) → front_length (position ends_vin bytes) (length bytes) ≤ length bytes
end_within bytes = go (position ends_vin bytes) refl
  where
    go : (o : Option ℕ) → position ends_vin bytes ≡ o → front_length o (length bytes) ≤ length bytes
    go None e = omega arith
    go (Some i) e = (let within = (position-Some ends_vin bytes i 0 e).0 in omega (arith, within))

-- nothing is half read from any source, nor between any two addresses
none_from : (s : ℕ) → pairs_from (no_pairs {X = HalfTold}) s ≡ empty_table
unfolding no_pairs
none_from s =
    ⊎_elim (λ h. get_or-replicate 256 s (empty_table {X = HalfTold}) empty_table h) (λ h. get_or_past (no_pairs {X = HalfTold}) s empty_table h) (cases_lt s 256)

pub none_between : (s d : ℕ) → pair_at (no_pairs {X = HalfTold}) s d ≡ None
none_between s d = ap (λ (t : List (Option HalfTold)). at t d) (none_from s) ∙ at-empty {X = HalfTold} d

-- so nothing is dropped
pub no_source_dropped : (s : ℕ) → slice_set (no_pairs {X = HalfTold}) s empty_table ≡ no_pairs
no_source_dropped s = ap (slice_set (no_pairs {X = HalfTold}) s) (sym (none_from s)) ∙ set-get_or (no_pairs {X = HalfTold}) s empty_table

pair_kept : (t : List (List (Option HalfTold))) (s d : ℕ) → with_pair t s d (pair_at t s d) ≡ t
pair_kept t s d = ap (slice_set t s) (written_back (pairs_from t s) d) ∙ set-get_or t s empty_table

pub none_dropped : (s d : ℕ) → with_pair (no_pairs {X = HalfTold}) s d None ≡ no_pairs
none_dropped s d = ap (λ (o : Option HalfTold). with_pair (no_pairs {X = HalfTold}) s d o) (sym (none_between s d)) ∙ pair_kept no_pairs s d

-- ---- what a packet does

-- one that is next, and not the last
pub goes_on : (bytes : List ℕ) (o : Option HalfTold) → answer_to bytes o ≡ Some More → after_packet bytes o ≡ with_packet bytes o
goes_on bytes None is = absurd cc
goes_on bytes (Some half) is = go (with_packet bytes (Some half)) is
  where
    by : (p : HalfTold) (b : Bool) → Some (if b then Whole else More) ≡ Some More → (if b then None else Some p) ≡ Some p
    by p true e = absurd cc
    by p false e = refl

    go : (x : Option HalfTold) → Some (took_by x) ≡ Some More → unfinished x ≡ x
    go None e = absurd cc
    go (Some p) e = by p (is_whole p) e

-- the last one
pub ends : (bytes : List ℕ) (o : Option HalfTold) → answer_to bytes o ≡ Some Whole → after_packet bytes o ≡ None
ends bytes None is = absurd cc
ends bytes (Some half) is = go (with_packet bytes (Some half)) is
  where
    by : (p : HalfTold) (b : Bool) → Some (if b then Whole else More) ≡ Some Whole → (if b then None else Some p) ≡ None
    by p true e = refl
    by p false e = absurd cc

    go : (x : Option HalfTold) → Some (took_by x) ≡ Some Whole → unfinished x ≡ None
    go None e = absurd cc
    go (Some p) e = by p (is_whole p) e

-- any other
pub breaks : (bytes : List ℕ) (o : Option HalfTold) → answer_to bytes o ≡ Some Broken → after_packet bytes o ≡ None
breaks bytes None is = absurd cc
breaks bytes (Some half) is = go (with_packet bytes (Some half)) is
  where
    by : (p : HalfTold) (b : Bool) → Some (if b then Whole else More) ≡ Some Broken → (if b then None else Some p) ≡ None
    by p true e = absurd cc
    by p false e = absurd cc

    go : (x : Option HalfTold) → Some (took_by x) ≡ Some Broken → unfinished x ≡ None
    go None e = refl
    go (Some p) e = by p (is_whole p) e

-- what is identified then: the last one tells a text
pub read_whole : (is_shown : Bool) (s d : ℕ) (bytes : List ℕ) (unit : UnitText) (v : IdentifiedValue) → answer_to bytes (pair_at v.half s d) ≡ Some Whole
    → IfSome (with_packet bytes (pair_at v.half s d)) (λ p. unit ≡ record { teller = p.tag; text = text_of p.tag.what (joined p.size p.pieces) })
    → (if is_shown then record v { half = with_pair v.half s d None; kept = with_told unit.teller unit.text v.kept } else record v { half = with_pair v.half s d None })
    ≡ read_to is_shown (with_packet bytes (pair_at v.half s d)) (record v { half = with_pair v.half s d (after_packet bytes (pair_at v.half s d)) })
read_whole is_shown s d bytes unit v is text =
    go (pair_at v.half s d) is text
    ∙ ap (λ (o : Option HalfTold). read_to is_shown (with_packet bytes (pair_at v.half s d)) (record v { half = with_pair v.half s d o })) (sym (ends bytes (pair_at v.half s d) is))
  where
    left : IdentifiedValue
    left = record v { half = with_pair v.half s d None }

    shown : (b : Bool) (p : HalfTold) → unit ≡ record { teller = p.tag; text = text_of p.tag.what (joined p.size p.pieces) }
        → (if b then record left { kept = with_told unit.teller unit.text v.kept } else left)
        ≡ (if b then record left { kept = with_told p.tag (text_of p.tag.what (joined p.size p.pieces)) v.kept } else left)
    shown true p e = ap (λ (u : UnitText). record left { kept = with_told u.teller u.text v.kept }) e
    shown false p e = refl

    by : (p : HalfTold) (b : Bool) → Some (if b then Whole else More) ≡ Some Whole
        → unit ≡ record { teller = p.tag; text = text_of p.tag.what (joined p.size p.pieces) }
        → (if is_shown then record left { kept = with_told unit.teller unit.text v.kept } else left)
        ≡ (if b && is_shown then record left { kept = with_told p.tag (text_of p.tag.what (joined p.size p.pieces)) v.kept } else left)
    by p true e t = shown is_shown p t
    by p false e t = absurd cc

    with_it : (x : Option HalfTold) → Some (took_by x) ≡ Some Whole → IfSome x (λ p. unit ≡ record { teller = p.tag; text = text_of p.tag.what (joined p.size p.pieces) })
        → (if is_shown then record left { kept = with_told unit.teller unit.text v.kept } else left) ≡ read_to is_shown x left
    with_it None e t = absurd cc
    with_it (Some p) e t = by p (is_whole p) e t

    go : (o : Option HalfTold) → answer_to bytes o ≡ Some Whole
        → IfSome (with_packet bytes o) (λ p. unit ≡ record { teller = p.tag; text = text_of p.tag.what (joined p.size p.pieces) })
        → (if is_shown then record left { kept = with_told unit.teller unit.text v.kept } else left) ≡ read_to is_shown (with_packet bytes o) left
    go None e t = absurd cc
    go (Some half) e t = with_it (with_packet bytes (Some half)) e t

-- and any other one tells none
pub read_more : (is_shown : Bool) (bytes : List ℕ) (o : Option HalfTold) (v : IdentifiedValue) → answer_to bytes o ≡ Some More → read_to is_shown (with_packet bytes o) v ≡ v
read_more is_shown bytes None v is = absurd cc
read_more is_shown bytes (Some half) v is = go (with_packet bytes (Some half)) is
  where
    by : (p : HalfTold) (b : Bool) → Some (if b then Whole else More) ≡ Some More
        → (if b && is_shown then record v { kept = with_told p.tag (text_of p.tag.what (joined p.size p.pieces)) v.kept } else v) ≡ v
    by p true e = absurd cc
    by p false e = refl

    go : (x : Option HalfTold) → Some (took_by x) ≡ Some More → read_to is_shown x v ≡ v
    go None e = absurd cc
    go (Some p) e = by p (is_whole p) e

pub read_broken : (is_shown : Bool) (bytes : List ℕ) (o : Option HalfTold) (v : IdentifiedValue) → answer_to bytes o ≡ Some Broken → read_to is_shown (with_packet bytes o) v ≡ v
read_broken is_shown bytes None v is = absurd cc
read_broken is_shown bytes (Some half) v is = go (with_packet bytes (Some half)) is
  where
    by : (p : HalfTold) (b : Bool) → Some (if b then Whole else More) ≡ Some Broken
        → (if b && is_shown then record v { kept = with_told p.tag (text_of p.tag.what (joined p.size p.pieces)) v.kept } else v) ≡ v
    by p true e = absurd cc
    by p false e = absurd cc

    go : (x : Option HalfTold) → Some (took_by x) ≡ Some Broken → read_to is_shown x v ≡ v
    go None e = refl
    go (Some p) e = by p (is_whole p) e

-- ---- what a packet is

-- late to one message is late to any between the two
late_alike : {T U : Type 0} (silence : Silence) (now : Option ℕ) (bytes : List ℕ) (pace : Option Pace) (a : Option (PartialValue T)) (b : Option (PartialValue U))
    → fate_of silence now bytes pace a ≡ Late → fate_of silence now bytes pace b ≡ Late
late_alike silence now bytes pace a b e =
    go (is_over_if (paced silence now (step_of bytes) pace)) (lets_come_if pace (packet_number bytes) && was_read bytes a) (lets_come_if pace (packet_number bytes) && was_read bytes b) e
  where
    go : (over one other : Bool) → (if over then Late else (if one then Again else Read)) ≡ Late → (if over then Late else (if other then Again else Read)) ≡ Late
    go true one other e = refl
    go false true other e = absurd cc
    go false false other e = absurd cc

pub none_late : (silence : Silence) (now : Option ℕ) (bytes : List ℕ) (pace : Option Pace) (a : Option HalfSent) (half : HalfTold)
    → fate_of silence now bytes pace a ≡ Late → packet_to silence now bytes pace (Some half) ≡ None
none_late silence now bytes pace a half late = ap (λ (f : Fate). packet_by f bytes half) (late_alike silence now bytes pace a (Some half) late)

pub none_again : (silence : Silence) (now : Option ℕ) (bytes : List ℕ) (pace : Option Pace) (half : HalfTold)
    → was_read bytes (Some half) ≡ true → lets_come_if pace (packet_number bytes) ≡ true → packet_to silence now bytes pace (Some half) ≡ None
none_again silence now bytes pace half was lets =
    let both : (lets_come_if pace (packet_number bytes) && was_read bytes (Some half)) ≡ true = rw (was, lets) refl in
    ap (λ (b : Bool). packet_by (if is_over_if (paced silence now (step_of bytes) pace) then Late else (if b then Again else Read)) bytes half) both
    ∙ go (is_over_if (paced silence now (step_of bytes) pace))
  where
    go : (over : Bool) → packet_by (if over then Late else Again) bytes half ≡ None
    go true = refl
    go false = refl

pub one_read : (silence : Silence) (now : Option ℕ) (bytes : List ℕ) (pace : Option Pace) (a : Option HalfSent) (half : HalfTold)
    → (fate_of silence now bytes pace a ≡ Late → ⊥) → (lets_come_if pace (packet_number bytes) && was_read bytes (Some half)) ≡ false
    → packet_to silence now bytes pace (Some half) ≡ Some (record { who = half.tag.who; took = took_by (with_packet bytes (Some half)) })
one_read silence now bytes pace a half on_time none =
    ap (λ (b : Bool). packet_by (if is_over_if (paced silence now (step_of bytes) pace) then Late else (if b then Again else Read)) bytes half) none
    ∙ go (is_over_if (paced silence now (step_of bytes) pace)) (lets_come_if pace (packet_number bytes) && was_read bytes a) on_time
  where
    go : (over one : Bool) → ((if over then Late else (if one then Again else Read)) ≡ Late → ⊥)
        → packet_by (if over then Late else Read) bytes half ≡ Some (record { who = half.tag.who; took = took_by (with_packet bytes (Some half)) })
    go true one not = absurd (not refl)
    go false one not = refl

-- one that is read was answered so
pub answered_so : (silence : Silence) (now : Option ℕ) (bytes : List ℕ) (pace : Option Pace) (o : Option HalfTold) (packet : TextPacket)
    → Some packet ≡ packet_to silence now bytes pace o → answer_to bytes o ≡ Some packet.took
answered_so silence now bytes pace None packet e = absurd cc
answered_so silence now bytes pace (Some half) packet e = go (fate_of silence now bytes pace (Some half)) e
  where
    go : (f : Fate) → Some packet ≡ packet_by f bytes half → answer_to bytes (Some half) ≡ Some packet.took
    go Read i = (let same : packet ≡ record { who = half.tag.who; took = took_by (with_packet bytes (Some half)) } = cc in ap (λ (p : TextPacket). Some p.took) (sym same))
    go Late i = absurd cc
    go Again i = absurd cc

-- ---- announcements

-- one of an identification begins it
newly_begun : (who : Who) (o : Option Identification) (n pgn : ℕ) (a : AnnouncedText) → announced_by o n pgn ≡ Some a → newly_told o n who ≡ Some (begun (record { who = who; what = a.what }) a.size)
newly_begun who None n pgn a e = absurd cc
newly_begun who (Some what) n pgn a e = (let same : record { size = n; pgn = pgn; what = what } ≡ a = cc in ap (λ (x : AnnouncedText). Some (begun (record { who = who; what = x.what }) x.size)) same)

pub begun_by : (who : Who) (s d : ℕ) (a : AnnouncedText) (m : Control) (half : List (List (Option HalfTold))) → text_announced d m ≡ Some a
    → halves_managed who s d m half ≡ with_pair half s d (Some (begun (record { who = who; what = a.what }) a.size))
begun_by who s d a (Bam n packets pgn) half is = go (d == GLOBAL_ADDRESS) is
  where
    go : (b : Bool) → (if b then announced_by (identification_of pgn) n pgn else None) ≡ Some a
        → (if b then with_pair half s d (newly_told (identification_of pgn) n who) else half) ≡ with_pair half s d (Some (begun (record { who = who; what = a.what }) a.size))
    go true e = ap (λ (o : Option HalfTold). with_pair half s d o) (newly_begun who (identification_of pgn) n pgn a e)
    go false e = absurd cc
begun_by who s d a (Rts n packets most pgn) half is = go (d == GLOBAL_ADDRESS) is
  where
    go : (b : Bool) → (if b then None else announced_by (identification_of pgn) n pgn) ≡ Some a
        → (if b then half else with_pair half s d (newly_told (identification_of pgn) n who)) ≡ with_pair half s d (Some (begun (record { who = who; what = a.what }) a.size))
    go false e = ap (λ (o : Option HalfTold). with_pair half s d o) (newly_begun who (identification_of pgn) n pgn a e)
    go true e = absurd cc
begun_by who s d a (Cts granted next pgn) half is = absurd cc
begun_by who s d a (EndAck n packets pgn) half is = absurd cc
begun_by who s d a (Abort reason pgn) half is = absurd cc

-- any other one drops what was half read between the two
none_begun : (who : Who) (o : Option Identification) (n pgn : ℕ) → announced_by o n pgn ≡ None → newly_told o n who ≡ None
none_begun who None n pgn e = refl
none_begun who (Some what) n pgn e = absurd cc

pub bam_of_other : (who : Who) (s d n packets pgn : ℕ) (half : List (List (Option HalfTold))) → text_announced d (Bam n packets pgn) ≡ None → (d == GLOBAL_ADDRESS) ≡ true
    → with_pair half s d None ≡ halves_managed who s d (Bam n packets pgn) half
bam_of_other who s d n packets pgn half is all = go (d == GLOBAL_ADDRESS) all is
  where
    go : (b : Bool) → b ≡ true → (if b then announced_by (identification_of pgn) n pgn else None) ≡ None
        → with_pair half s d None ≡ (if b then with_pair half s d (newly_told (identification_of pgn) n who) else half)
    go true t e = ap (λ (o : Option HalfTold). with_pair half s d o) (sym (none_begun who (identification_of pgn) n pgn e))
    go false t e = absurd cc

pub rts_of_other : (who : Who) (s d n packets most pgn : ℕ) (half : List (List (Option HalfTold))) → text_announced d (Rts n packets most pgn) ≡ None → (d == GLOBAL_ADDRESS) ≡ false
    → with_pair half s d None ≡ halves_managed who s d (Rts n packets most pgn) half
rts_of_other who s d n packets most pgn half is one = go (d == GLOBAL_ADDRESS) one is
  where
    go : (b : Bool) → b ≡ false → (if b then None else announced_by (identification_of pgn) n pgn) ≡ None
        → with_pair half s d None ≡ (if b then half else with_pair half s d (newly_told (identification_of pgn) n who))
    go false t e = ap (λ (o : Option HalfTold). with_pair half s d o) (sym (none_begun who (identification_of pgn) n pgn e))
    go true t e = absurd cc

-- what was begun, and is undone
pub undone : (before after restored : List (List (Option HalfTold))) (s d : ℕ) (v o : Option HalfTold) → after ≡ with_pair before s d v → o ≡ pair_at before s d → restored ≡ with_pair after s d o → restored ≡ before
undone before after restored s d v o put was back = back ∙ (ap (λ (p : List (List (Option HalfTold))). with_pair p s d o) put ∙ (ap (λ (x : Option HalfTold). with_pair (with_pair before s d v) s d x) was ∙ pair_restored before s d v))

-- nothing is half read, and a claim ends nothing
pub nothing_claimed : (who : Who) (s name : ℕ) (half : List (List (Option HalfTold))) → half ≡ no_pairs → half ≡ halves_claimed who s name half
nothing_claimed who s name half none = none ∙ (go (is_of_name name who) ∙ ap (λ (h : List (List (Option HalfTold))). halves_claimed who s name h) (sym none))
  where
    go : (b : Bool) → no_pairs {X = HalfTold} ≡ (if b then no_pairs {X = HalfTold} else slice_set (no_pairs {X = HalfTold}) s empty_table)
    go true = refl
    go false = sym (no_source_dropped s)
