-- What a listener lists of the run that shows something in each way; and a run that shows a station what it does not show a listener.
use Rattle.std.proofs.Common.{◌≡◌, List, [], ◌∷◌, ◌++◌, refl, sym, ap}
use Rattle.can_frame.specs.FrameValue.{FrameValue}
use Rattle.dm_messages.specs.declared.kind.Kind.TheVariants.{Dm2}
use Rattle.parameter_group.specs.Group.{group_of}
use Rattle.transport.specs.Messages.{control_frame}
use Rattle.transport.specs.declared.control.Control.TheVariants.{Abort}
use Rattle.bus_model.specs.Example.{faulty_memory, one_station}
use Rattle.bus_model.specs.Expected.{passed}
use Rattle.bus_model.specs.Heard.{address_heard}
use Rattle.bus_model.specs.Machine.{Ask, Begins, Carry, Carry_station, Event, Hear, Join, Nothing, Read, Run, Sends, World, start}
use Rattle.bus_model.specs.Messages.{frame_of_part, last_part_of, payload_sent, way_of}
use Rattle.bus_model.specs.OverheardExample.{IsNotOverheard, IsOverheardEachWay, all_after_first, all_read}
use Rattle.bus_model.specs.OverheardExpected.{IsPathOfListener, NoneOwn}
use Rattle.bus_model.specs.Traffic.{Item}
use Rattle.bus_model.proofs.Runs.{another_address, ask_dm2, clear_to_send, each_way, each_way_run, proper_session, small_5, two_of_two, zero_holds}

reads_all : (xs : List Item) → passed (all_read xs) ++ [] ≡ xs
reads_all [] = refl
reads_all (e ∷ xs) = ap (λ (v : List Item). e ∷ v) (reads_all xs)

sends_none : (xs : List Item) → NoneOwn (all_read xs)
sends_none [] = tt
sends_none (e ∷ xs) = sends_none xs

pub all_read_listens : (wire : List Item) → IsPathOfListener wire (all_read wire)
all_read_listens wire = record { later = []; before = []; along = sym (reads_all wire); none_own = sends_none wire }

abbrev oldest : List Item → List Item
oldest [] = []
oldest (e ∷ []) = e ∷ []
oldest (e ∷ d ∷ xs) = oldest (d ∷ xs)

reads_rest : (xs : List Item) → passed (all_after_first xs) ++ oldest xs ≡ xs
reads_rest [] = refl
reads_rest (e ∷ []) = refl
reads_rest (e ∷ d ∷ xs) = ap (λ (v : List Item). e ∷ v) (reads_rest (d ∷ xs))

rest_sends_none : (xs : List Item) → NoneOwn (all_after_first xs)
rest_sends_none [] = tt
rest_sends_none (e ∷ []) = tt
rest_sends_none (e ∷ d ∷ xs) = rest_sends_none (d ∷ xs)

pub rest_listens : (wire : List Item) → IsPathOfListener wire (all_after_first wire)
rest_listens wire = record { later = []; before = oldest wire; along = sym (reads_rest wire); none_own = rest_sends_none wire }

pub overheard_run : (w : World) × Run (start one_station) each_way w × IsOverheardEachWay w
unfolding group_of way_of payload_sent frame_of_part last_part_of each_way_run
overheard_run = (
  each_way_run.0,
  each_way_run.1,
  record {
    begun = refl;
    listens = all_read_listens each_way_run.0.wire;
    named = record { single_and_broadcast = refl; session = refl };
    listens_late = rest_listens each_way_run.0.wire;
    unclaimed = record { single_and_broadcast = refl; session = refl };
    no_name = refl;
  },
)

-- ---- a session that the station aborts, and goes on with

abbrev pub abort : FrameValue
abort = control_frame (Abort 2 65227) 249 0

abbrev pub aborted : List Event
aborted = Join 5 0 ∷ Carry 0 ∷ Read 0 [] ∷ Carry_station 0 ∷ Hear 0 Nothing ∷ Ask 0 (ask_dm2 ∷ []) ∷ Carry_station 0 ∷ Hear 0 (Begins Dm2 faulty_memory 0 249) ∷ Carry 0 ∷ Read 0 (abort ∷ clear_to_send ∷ []) ∷ Carry_station 0 ∷ Hear 0 (Sends 2) ∷ Carry_station 0 ∷ Hear 0 Nothing ∷ Carry 0 ∷ Read 0 [] ∷ Carry 0 ∷ Read 0 [] ∷ []

pub aborted_run : (w : World) × Run (start one_station) aborted w × IsNotOverheard w
unfolding group_of way_of payload_sent frame_of_part last_part_of address_heard
aborted_run = (_, (_, ((refl, λ x s h. cc h.0), small_5, zero_holds, refl), (_, (_, _, [], (refl, refl), refl, refl, refl), (_, (_, _, [], refl, refl, tt, refl), (_, (_, _, [], refl, refl, refl, refl), (_, (_, _, [], (refl, refl), refl, (record { uncontested = refl; uncut = refl }), refl), (_, (_, refl, (λ l. refl, tt), refl), (_, (_, _, [], refl, refl, refl, refl), (_, (_, _, [], (refl, refl), refl, ((record { uncontested = refl; uncut = refl }), refl, proper_session _ _ _, tt, (refl, another_address, refl)), refl), (_, (_, _, [], (refl, refl), refl, refl, refl), (_, (_, _, [], refl, refl, (refl, (tt, tt)), refl), (_, (_, _, (_ ∷ []), refl, refl, refl, refl), (_, (_, _, [], (refl, refl), refl, ((record { uncontested = refl; uncut = refl }), (_, refl, two_of_two)), refl), (_, (_, _, [], refl, refl, refl, refl), (_, (_, _, [], (refl, refl), refl, (record { uncontested = refl; uncut = refl }), refl), (_, (_, _, (_ ∷ []), (refl, refl), refl, refl, refl), (_, (_, _, [], refl, refl, tt, refl), (_, (_, _, [], (refl, refl), refl, refl, refl), (_, (_, _, [], refl, refl, tt, refl), refl)))))))))))))))))), record { station = _; only = refl; listed = refl; listens = all_read_listens _; nothing = refl })
