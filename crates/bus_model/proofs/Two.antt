-- A run with two stations: the second asks for a session.
use Rattle.std.proofs.Common.{◌≢◌, ℕ, List, [], ◌∷◌, refl, inr, arith}
use Rattle.can_frame.specs.Fields.{pdu1_number}
use Rattle.can_frame.specs.FrameValue.{FrameValue, frame}
use Rattle.dm_messages.specs.declared.kind.Kind.TheVariants.{Dm2}
use Rattle.parameter_group.specs.Group.{group_of}
use Rattle.transport.specs.Messages.{control_frame}
use Rattle.transport.specs.declared.control.Control.TheVariants.{Cts}
use Rattle.bus_model.specs.Example.{ContestsAddress, ShowsAtSecondAlone, faulty_memory, two_at_one_address, two_stations}
use Rattle.bus_model.specs.Heard.{address_heard}
use Rattle.bus_model.specs.Machine.{Ask, Begins, Carry, Carry_station, Event, Sends, Hear, Join, Nothing, Read, Run, World, start}
use Rattle.bus_model.specs.Messages.{IsProper, frame_of_part, last_part_of, payload_sent, way_of}
use Rattle.bus_model.proofs.Runs.{faulty_lawful, small_5, two_of_two, zero_holds}

abbrev pub ask_dm2 : FrameValue
ask_dm2 = frame (pdu1_number 6 59904 0 250) (203 ∷ 254 ∷ 0 ∷ [])

abbrev pub clear_to_send : FrameValue
clear_to_send = control_frame (Cts 2 1 65227) 250 0

abbrev pub at_second : List Event
at_second = Join 5 0 ∷ Carry 0 ∷ Read 0 [] ∷ Read 1 [] ∷ Carry_station 0 ∷ Hear 0 Nothing ∷ Read 1 [] ∷ Carry_station 1 ∷ Read 0 [] ∷ Hear 0 Nothing ∷ Ask 1 (ask_dm2 ∷ []) ∷ Carry_station 1 ∷ Read 0 [] ∷ Hear 0 (Begins Dm2 faulty_memory 0 250) ∷ Carry 0 ∷ Read 0 [] ∷ Read 1 (clear_to_send ∷ []) ∷ Carry_station 1 ∷ Read 0 [] ∷ Hear 0 (Sends 2) ∷ Carry 0 ∷ Read 0 [] ∷ Read 1 [] ∷ Carry 0 ∷ Read 0 [] ∷ Read 1 [] ∷ []

proper_session : (number seat name : ℕ) → IsProper (record { number = number; seat = seat; name = name; kind = Dm2; memory = faulty_memory; source = 0; destination = 250 })
unfolding payload_sent
proper_session number seat name = record { memory = faulty_lawful; source = omega arith; destination = inr (omega arith, λ e. cc) }

another_address : ◌≢◌ {A = ℕ} 250 0
another_address e = absurd (omega (arith, e))

pub at_second_run : (w : World) × Run (start two_stations) at_second w × ShowsAtSecondAlone w
unfolding group_of way_of payload_sent frame_of_part last_part_of address_heard
at_second_run = (_, (_, ((refl, λ x s h. cc h.0), small_5, zero_holds, refl), (_, (_, _, [], (refl, refl), refl, refl, refl), (_, (_, _, [], refl, refl, tt, refl), (_, (_, _, [], refl, refl, tt, refl), (_, (_, _, [], refl, refl, refl, refl), (_, (_, _, [], (refl, refl), refl, (record { uncontested = refl; uncut = refl }), refl), (_, (_, _, [], refl, refl, tt, refl), (_, (_, _, [], refl, refl, refl, refl), (_, (_, _, [], refl, refl, tt, refl), (_, (_, _, [], (refl, refl), refl, (record { uncontested = refl; uncut = refl }), refl), (_, (_, refl, (λ l. refl, tt), refl), (_, (_, _, [], refl, refl, refl, refl), (_, (_, _, [], refl, refl, tt, refl), (_, (_, _, [], (refl, refl), refl, ((record { uncontested = refl; uncut = refl }), refl, proper_session _ _ _, tt, (refl, another_address, refl)), refl), (_, (_, _, [], (refl, refl), refl, refl, refl), (_, (_, _, [], refl, refl, tt, refl), (_, (_, _, [], refl, refl, (tt, tt), refl), (_, (_, _, [], refl, refl, refl, refl), (_, (_, _, [], refl, refl, tt, refl), (_, (_, _, [], (refl, refl), refl, ((record { uncontested = refl; uncut = refl }), (_, refl, two_of_two)), refl), (_, (_, _, (_ ∷ []), (refl, refl), refl, refl, refl), (_, (_, _, [], refl, refl, tt, refl), (_, (_, _, [], refl, refl, tt, refl), (_, (_, _, [], (refl, refl), refl, refl, refl), (_, (_, _, [], refl, refl, tt, refl), (_, (_, _, [], refl, refl, tt, refl), refl)))))))))))))))))))))))))), record { one = _; two = _; first = refl; second = refl; nothing = refl; session = refl })

-- ---- two stations at one address

abbrev pub contest : List Event
contest = Carry_station 0 ∷ Read 1 [] ∷ Carry_station 1 ∷ Read 0 [] ∷ []

pub contest_run : (w : World) × Run (start two_at_one_address) contest w × ContestsAddress w
unfolding group_of address_heard
contest_run = (_, (_, (_, _, [], refl, refl, refl, refl), (_, (_, _, [], refl, refl, tt, refl), (_, (_, _, [], refl, refl, refl, refl), (_, (_, _, [], refl, refl, tt, refl), refl)))), record { one = _; two = _; first = refl; second = refl; kept = refl; lost = refl })
