-- Two concrete runs of two stations and their units, event by event; that each event fits, and what they show.
use Rattle.std.proofs.Common.{◌≡◌, ℕ, List, [], ◌∷◌, ◌++◌, Some, None, Bool, true, false, refl, inl, inr, arith}
use Rattle.std.proofs.Math.Dec.{lit≤}
use Rattle.can_frame.specs.FrameValue.{FrameValue}
use Rattle.can_frame.specs.declared.address.TheConstants.{GLOBAL_ADDRESS}
use Rattle.can_frame.specs.declared.group_numbers.TheConstants.{DM1, DM2, DM6}
use Rattle.can_frame.specs.declared.reading.Reading.TheVariants as reading
use Rattle.address_claim.specs.Frames.{claim_frame_value}
use Rattle.requests.specs.Layouts.{request_frame_value}
use Rattle.transport.specs.Messages.{control_frame, part_of_message}
use Rattle.transport.specs.declared.control.Control.TheVariants.{Cts, EndAck}
use Rattle.dm_messages.specs.declared.kind.Kind.TheVariants.{Dm1, Dm2, Dm6}
use Rattle.dm_messages.specs.View.{payload_of}
use Rattle.fault_memory.specs.Memory.{new_memory}
use Rattle.parameter_group.specs.Group.{group_of}
use Rattle.reassembly.specs.Tables.{empty_table}
use Rattle.node_core.specs.declared.heard.Answer.TheVariants.{NotAsked}
use Rattle.bus_model.proofs.Runs.{new_lawful}
use Rattle.station_table.specs.Steps.{no_limits}
use Rattle.station_table.specs.declared.reaction.Ask.TheVariants as ask
use Rattle.journal.specs.declared.order.Order.TheVariants.{Ask}
use Rattle.journal.specs.declared.event.Event.{Event}
use Rattle.journal.specs.declared.event.Event.TheVariants.{Join, Hear, Begin, Carry, Read, Ordered}
use Rattle.journal.specs.Steps.{after_join, after_carry_of, after_read, after_order_of, after_hear_of, after_begin_of, untagged}
use Rattle.journal.specs.Journal.{AllFit, GarageValue, injected_of, readings_at, state_after}
use Rattle.journal.specs.Worlds.{stations_of}
use Rattle.bus_model.specs.Machine.{AreFit}
use Rattle.bus_model.specs.Heard.{address_heard}
use Rattle.bus_model.specs.Messages.{last_part_of, payload_sent}
use Rattle.journal.specs.Example.{ShowsEachKind, TakesOver, choices, two_station_settings, memory_of_each}
use Rattle.journal.proofs.Fitting.{AreFitting, carried, fit_onto, memory_lawful, onto}
use Rattle.bus_ledger.specs.Changes.{queued_frame}
use Rattle.bus_ledger.specs.declared.traffic.QueuedFrame.{QueuedFrame}

-- ---- the frames

abbrev pub first_claim : FrameValue
first_claim = claim_frame_value 1 (Some 249)

abbrev pub second_claim : FrameValue
second_claim = claim_frame_value 2 (Some 250)

abbrev pub claim_of_5 : FrameValue
claim_of_5 = claim_frame_value 5 (Some 0)

abbrev pub claim_of_4 : FrameValue
claim_of_4 = claim_frame_value 4 (Some 0)

abbrev pub cannot_claim : FrameValue
cannot_claim = claim_frame_value 5 None

abbrev pub dm1_part : ℕ → FrameValue
dm1_part j = part_of_message (payload_of Dm1 memory_of_each) DM1 0 GLOBAL_ADDRESS j

abbrev pub dm2_part : ℕ → FrameValue
dm2_part j = part_of_message (payload_of Dm2 memory_of_each) DM2 0 250 j

abbrev pub dm6_frame : FrameValue
dm6_frame = part_of_message (payload_of Dm6 memory_of_each) DM6 0 GLOBAL_ADDRESS 0

abbrev pub dm1_of_4 : FrameValue
dm1_of_4 = part_of_message (payload_of Dm1 new_memory) DM1 0 GLOBAL_ADDRESS 0

abbrev pub request_for_dm2 : FrameValue
request_for_dm2 = request_frame_value (record { pgn = DM2; dest = 0; source = 250 })

abbrev pub request_for_dm6 : FrameValue
request_for_dm6 = request_frame_value (record { pgn = DM6; dest = 0; source = 249 })

abbrev pub clear_to_send : FrameValue
clear_to_send = control_frame (Cts 2 1 DM2) 250 0

abbrev pub end_of_message : FrameValue
end_of_message = control_frame (EndAck 10 2 DM2) 250 0

-- a part of the message with this number, as it is queued
abbrev pub part_queued : FrameValue → ℕ → ℕ → Bool → QueuedFrame
part_queued f message part session = queued_frame f (Some (record { message = message; part = part; session = session }))

-- a frame is carried, and each station that did not send it reads it
abbrev pub by_first : FrameValue → List Event
by_first f = Carry 0 ∷ Read 1 (reading.Frame f) ∷ []

abbrev pub by_second : FrameValue → List Event
by_second f = Carry 1 ∷ Read 0 (reading.Frame f) ∷ []

abbrev pub by_unit : ℕ → FrameValue → List Event
by_unit k f = Carry k ∷ Read 0 (reading.Frame f) ∷ Read 1 (reading.Frame f) ∷ []

-- ---- how both begin: the stations claim, a unit joins and claims

abbrev pub beginning : List Event
beginning =
    by_first first_claim ++ by_second second_claim ++ Join 2 5 0 ∷ by_unit 2 claim_of_5 ++ []

beginning_fits : AreFitting (state_after two_station_settings []) beginning
unfolding state_after after_join after_carry_of after_read after_order_of after_hear_of after_begin_of group_of empty_table no_limits
beginning_fits = ((_, carried _ 0 (untagged first_claim) refl (inr (refl, lit≤ tt), (inl (lit≤ tt), tt))), ((lit≤ tt, refl, λ e. cc), ((_, carried _ 1 (untagged second_claim) refl (tt, (inr (refl, lit≤ tt), tt))), ((lit≤ tt, refl, λ e. cc), ((refl, refl, lit≤ tt, lit≤ tt), ((_, carried _ 2 (untagged claim_of_5) refl (tt, (tt, (inr (refl, lit≤ tt), tt)))), ((lit≤ tt, refl, λ e. cc), ((lit≤ tt, refl, λ e. cc), tt))))))))

abbrev pub begun_journal : List Event
begun_journal = onto beginning []

-- ---- each kind of message

abbrev pub each_kind : List Event
each_kind =
    Begin 2 memory_of_each ∷ by_unit 2 (dm1_part 0) ++ by_unit 2 (dm1_part 1) ++ by_unit 2 (dm1_part 2)
    ++ Ordered 1 (Ask 5 ask.Dm2) ∷ by_second request_for_dm2 ++ Hear 2 memory_of_each NotAsked ∷ by_unit 2 (dm2_part 0)
    ++ by_second clear_to_send ++ Hear 2 memory_of_each NotAsked ∷ by_unit 2 (dm2_part 1) ++ by_unit 2 (dm2_part 2)
    ++ by_second end_of_message ++ Hear 2 memory_of_each NotAsked ∷ Ordered 0 (Ask 5 ask.Dm6) ∷ by_first request_for_dm6
    ++ Hear 2 memory_of_each NotAsked ∷ by_unit 2 dm6_frame ++ []

each_kind_fits : AreFitting (state_after two_station_settings begun_journal) each_kind
unfolding state_after after_join after_carry_of after_read after_order_of after_hear_of after_begin_of group_of empty_table no_limits
each_kind_fits = (((lit≤ tt, lit≤ tt, refl), (0, refl, λ e. cc), memory_lawful), ((_, carried _ 2 (part_queued (dm1_part 0) 0 0 false) refl (tt, (tt, (inr (refl, lit≤ tt), tt)))), ((lit≤ tt, refl, λ e. cc), ((lit≤ tt, refl, λ e. cc), ((_, carried _ 2 (part_queued (dm1_part 1) 0 1 false) refl (tt, (tt, (inr (refl, lit≤ tt), tt)))), ((lit≤ tt, refl, λ e. cc), ((lit≤ tt, refl, λ e. cc), ((_, carried _ 2 (part_queued (dm1_part 2) 0 2 false) refl (tt, (tt, (inr (refl, lit≤ tt), tt)))), ((lit≤ tt, refl, λ e. cc), ((lit≤ tt, refl, λ e. cc), ((lit≤ tt, (_, refl)), ((_, carried _ 1 (untagged request_for_dm2) refl (tt, (inr (refl, lit≤ tt), (tt, tt)))), ((lit≤ tt, refl, λ e. cc), (((lit≤ tt, lit≤ tt, refl), lit≤ tt, memory_lawful, refl), ((_, carried _ 2 (part_queued (dm2_part 0) 1 0 true) refl (tt, (tt, (inr (refl, lit≤ tt), tt)))), ((lit≤ tt, refl, λ e. cc), ((lit≤ tt, refl, λ e. cc), ((_, carried _ 1 (untagged clear_to_send) refl (tt, (inr (refl, lit≤ tt), (tt, tt)))), ((lit≤ tt, refl, λ e. cc), (((lit≤ tt, lit≤ tt, refl), lit≤ tt, memory_lawful, refl), ((_, carried _ 2 (part_queued (dm2_part 1) 1 1 true) refl (tt, (tt, (inr (refl, lit≤ tt), tt)))), ((lit≤ tt, refl, λ e. cc), ((lit≤ tt, refl, λ e. cc), ((_, carried _ 2 (part_queued (dm2_part 2) 1 2 true) refl (tt, (tt, (inr (refl, lit≤ tt), tt)))), ((lit≤ tt, refl, λ e. cc), ((lit≤ tt, refl, λ e. cc), ((_, carried _ 1 (untagged end_of_message) refl (tt, (inr (refl, lit≤ tt), (tt, tt)))), ((lit≤ tt, refl, λ e. cc), (((lit≤ tt, lit≤ tt, refl), lit≤ tt, memory_lawful, refl), ((lit≤ tt, (_, refl)), ((_, carried _ 0 (untagged request_for_dm6) refl (inr (refl, lit≤ tt), (tt, (tt, tt)))), ((lit≤ tt, refl, λ e. cc), (((lit≤ tt, lit≤ tt, refl), lit≤ tt, memory_lawful, refl), ((_, carried _ 2 (part_queued dm6_frame 2 0 false) refl (tt, (tt, (inr (refl, lit≤ tt), tt)))), ((lit≤ tt, refl, λ e. cc), ((lit≤ tt, refl, λ e. cc), tt))))))))))))))))))))))))))))))))))))

-- ---- a takeover

abbrev pub takeover : List Event
takeover =
    Begin 2 memory_of_each ∷ by_unit 2 (dm1_part 0) ++ by_unit 2 (dm1_part 1) ++ Join 3 4 0 ∷ by_unit 3 claim_of_4
    ++ Hear 2 memory_of_each NotAsked ∷ Begin 3 new_memory ∷ by_unit 2 cannot_claim ++ Hear 3 new_memory NotAsked
    ∷ by_unit 3 dm1_of_4 ++ Hear 2 memory_of_each NotAsked ∷ []

takeover_fits : AreFitting (state_after two_station_settings begun_journal) takeover
unfolding state_after after_join after_carry_of after_read after_order_of after_hear_of after_begin_of group_of empty_table no_limits
takeover_fits = (((lit≤ tt, lit≤ tt, refl), (0, refl, λ e. cc), memory_lawful), ((_, carried _ 2 (part_queued (dm1_part 0) 0 0 false) refl (tt, (tt, (inr (refl, lit≤ tt), tt)))), ((lit≤ tt, refl, λ e. cc), ((lit≤ tt, refl, λ e. cc), ((_, carried _ 2 (part_queued (dm1_part 1) 0 1 false) refl (tt, (tt, (inr (refl, lit≤ tt), tt)))), ((lit≤ tt, refl, λ e. cc), ((lit≤ tt, refl, λ e. cc), ((refl, refl, lit≤ tt, lit≤ tt), ((_, carried _ 3 (untagged claim_of_4) refl (tt, (tt, (inl (lit≤ tt), (inr (refl, lit≤ tt), tt))))), ((lit≤ tt, refl, λ e. cc), ((lit≤ tt, refl, λ e. cc), (((lit≤ tt, lit≤ tt, refl), lit≤ tt, memory_lawful, refl), (((lit≤ tt, lit≤ tt, refl), (0, refl, λ e. cc), new_lawful), ((_, carried _ 2 (untagged cannot_claim) refl (tt, (tt, (inr (refl, lit≤ tt), (inl (lit≤ tt), tt))))), ((lit≤ tt, refl, λ e. cc), ((lit≤ tt, refl, λ e. cc), (((lit≤ tt, lit≤ tt, refl), lit≤ tt, new_lawful, refl), ((_, carried _ 3 (part_queued dm1_of_4 1 0 false) refl (tt, (tt, (tt, (inr (refl, lit≤ tt), tt))))), ((lit≤ tt, refl, λ e. cc), ((lit≤ tt, refl, λ e. cc), (((lit≤ tt, lit≤ tt, refl), lit≤ tt, memory_lawful, refl), tt)))))))))))))))))))))

-- ---- what they show

-- the two stations have two NAMEs
settings_fit : AreFit (stations_of two_station_settings)
settings_fit = (record { name = lit≤ tt; address = lit≤ tt }, (λ e. absurd (let k : 2 ≡ 1 = e in omega (arith, k)), tt), (record { name = lit≤ tt; address = lit≤ tt }, tt, tt))

begun_lawful : AllFit two_station_settings begun_journal
unfolding AllFit
begun_lawful = fit_onto two_station_settings [] settings_fit beginning beginning_fits

abbrev pub garage_of_each_kind : GarageValue
garage_of_each_kind = record { settings = two_station_settings; journal = onto each_kind begun_journal }

abbrev pub garage_of_takeover : GarageValue
garage_of_takeover = record { settings = two_station_settings; journal = onto takeover begun_journal }

pub shows_each_kind : ShowsEachKind 1 garage_of_each_kind
unfolding injected_of choices readings_at state_after address_heard payload_sent last_part_of after_join after_carry_of after_read after_order_of after_hear_of after_begin_of group_of empty_table no_limits
shows_each_kind = record {
  run = record { settings = refl; lawful = fit_onto two_station_settings begun_journal begun_lawful each_kind each_kind_fits; closed = refl; choices_are = refl; begun_are = refl };
  claimed = refl;
  session = refl;
  ended = refl;
  dm1 = record { at_first = refl; at_second = refl };
  dm2 = refl;
  dm2_at_first = refl;
  dm6 = record { at_first = refl; at_second = refl };
}

pub takes_over : TakesOver 4 5 garage_of_takeover
unfolding injected_of choices state_after address_heard payload_sent last_part_of after_join after_carry_of after_read after_order_of after_hear_of after_begin_of group_of empty_table no_limits
takes_over = record {
  run = record { settings = refl; lawful = fit_onto two_station_settings begun_journal begun_lawful takeover takeover_fits; closed = refl; choices_are = refl; begun_are = refl };
  cut = refl;
  lost = refl;
  held = refl;
  nothing = record { at_first = refl; at_second = refl };
  its_own = record { at_first = refl; at_second = refl };
}
