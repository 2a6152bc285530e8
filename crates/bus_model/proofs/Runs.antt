-- Two runs with one station: one that shows something in each way, and one with a gap and a takeover.
use Rattle.std.proofs.Common.{◌≡◌, ◌≢◌, ℕ, zero, suc, ◌+◌, ◌<◌, ◌≤◌, ◌^◌, List, [], ◌∷◌, Some, None, refl, sym, ◌∙◌, subst, inl, inr, arith, slice_get}
use Rattle.std.proofs.lemmas.List.Elements.{All-from_recursion}
use Rattle.can_frame.specs.Fields.{pdu1_number}
use Rattle.can_frame.specs.FrameValue.{FrameValue, frame}
use Rattle.dm_messages.specs.declared.kind.Kind.{Kind}
use Rattle.dm_messages.specs.declared.kind.Kind.TheVariants.{Dm1, Dm2}
use Rattle.fault_memory.specs.Memory.{IsKeptCode, IsLawfulMemory, new_memory}
use Rattle.parameter_group.specs.Group.{group_of}
use Rattle.std.specs.List.{IsDistinct}
use Rattle.transport.specs.Messages.{control_frame}
use Rattle.transport.specs.declared.control.Control.TheVariants.{Cts}
use Rattle.trouble_code.specs.Code.{code}
use Rattle.bus_model.specs.Example.{ShowsAfterTakeover, ShowsEachWay, one_station, faulty_memory}
use Rattle.bus_model.specs.Heard.{address_heard}
use Rattle.bus_model.specs.Machine.{Ask, Begin, Begins, Carry, Carry_station, Event, Sends, Hear, Join, Miss, Nothing, Read, Run, Seat, World, Claims, start}
use Rattle.bus_model.specs.Messages.{IsProper, frame_of_part, last_part_of, payload_sent, way_of}

abbrev pub ask_dm2 : FrameValue
ask_dm2 = frame (pdu1_number 6 59904 0 249) (203 ∷ 254 ∷ 0 ∷ [])

abbrev pub clear_to_send : FrameValue
clear_to_send = control_frame (Cts 2 1 65227) 249 0

abbrev pub each_way : List Event
each_way = Join 5 0 ∷ Carry 0 ∷ Read 0 [] ∷ Carry_station 0 ∷ Hear 0 Nothing ∷ Begin 0 Dm1 new_memory 0 ∷ Carry 0 ∷ Read 0 [] ∷ Begin 0 Dm1 faulty_memory 0 ∷ Carry 0 ∷ Read 0 [] ∷ Carry 0 ∷ Read 0 [] ∷ Carry 0 ∷ Read 0 [] ∷ Ask 0 (ask_dm2 ∷ []) ∷ Carry_station 0 ∷ Hear 0 (Begins Dm2 faulty_memory 0 249) ∷ Carry 0 ∷ Read 0 (clear_to_send ∷ []) ∷ Carry_station 0 ∷ Hear 0 (Sends 2) ∷ Carry 0 ∷ Read 0 [] ∷ Carry 0 ∷ Read 0 [] ∷ []

abbrev pub after_takeover : List Event
after_takeover = Join 5 0 ∷ Carry 0 ∷ Read 0 [] ∷ Carry_station 0 ∷ Hear 0 Nothing ∷ Begin 0 Dm1 faulty_memory 0 ∷ Carry 0 ∷ Read 0 [] ∷ Carry 0 ∷ Miss 0 1 [] ∷ Carry 0 ∷ Read 0 [] ∷ Join 4 0 ∷ Carry 1 ∷ Read 0 [] ∷ Hear 0 (Claims None) ∷ Begin 1 Dm1 new_memory 0 ∷ Carry 1 ∷ Read 0 [] ∷ []

-- the memories of the run are lawful
pub kept_code : (spn fmi : ℕ) → spn < 1000 → fmi < 32 → IsKeptCode (code spn fmi 1)
kept_code spn fmi l k = ((omega arith, omega arith, omega arith, omega arith), omega arith, omega arith)

pub new_lawful : IsLawfulMemory new_memory
unfolding IsDistinct
new_lawful = record {
  lamps = (omega arith, omega arith);
  active = All-from_recursion IsKeptCode [] tt;
  previous = All-from_recursion IsKeptCode [] tt;
  pending = All-from_recursion IsKeptCode [] tt;
  distinct = tt;
  room = omega arith;
}

pub faulty_lawful : IsLawfulMemory faulty_memory
unfolding IsDistinct
faulty_lawful = record {
  lamps = (omega arith, omega arith);
  active = All-from_recursion IsKeptCode (code 100 1 1 ∷ code 200 2 1 ∷ []) (kept_code 100 1 (omega arith) (omega arith), (kept_code 200 2 (omega arith) (omega arith), tt));
  previous = All-from_recursion IsKeptCode (code 300 3 1 ∷ code 400 4 1 ∷ []) (kept_code 300 3 (omega arith) (omega arith), (kept_code 400 4 (omega arith) (omega arith), tt));
  pending = All-from_recursion IsKeptCode [] tt;
  distinct = ((refl, (refl, (refl, tt))), ((refl, (refl, tt)), ((refl, tt), (tt, tt))));
  room = omega arith;
}

pub proper_new_memory : (number seat name : ℕ) (k : Kind) → IsProper (record { number = number; seat = seat; name = name; kind = k; memory = new_memory; source = 0; destination = 255 })
proper_new_memory number seat name k = record { memory = new_lawful; source = omega arith; destination = inl refl }

pub proper_faulty_memory : (number seat name : ℕ) (k : Kind) → IsProper (record { number = number; seat = seat; name = name; kind = k; memory = faulty_memory; source = 0; destination = 255 })
proper_faulty_memory number seat name k = record { memory = faulty_lawful; source = omega arith; destination = inl refl }

pub proper_session : (number seat name : ℕ) → IsProper (record { number = number; seat = seat; name = name; kind = Dm2; memory = faulty_memory; source = 0; destination = 249 })
unfolding payload_sent
proper_session number seat name = record { memory = faulty_lawful; source = omega arith; destination = inr (omega arith, λ e. cc) }

-- the small facts of its steps
pub another_address : ◌≢◌ {A = ℕ} 249 0
another_address e = absurd (omega (arith, e))

pub another_kind : Dm2 ≢ Dm1
another_kind e = cc

pub two_of_two : 2 + 0 ≤ 2
two_of_two = omega arith

pub zero_holds : 0 ≤ 253
zero_holds = omega arith

pub small_5 : 5 < 2 ^ 64
small_5 = omega arith

pub small_4 : 4 < 2 ^ 64
small_4 = omega arith

-- the one seat
pub other : (x : ℕ) (v s : Seat) → slice_get (v ∷ []) x ≡ Some s → v.name ≡ 5 → s.name ≢ 4
other zero v s h e f = let g : v ≡ s = cc in let k : s.name ≡ 5 = subst (λ (u : Seat). u.name ≡ 5) g e in absurd (let z : 5 ≡ 4 = sym k ∙ f in omega (arith, z))
other (suc x) v s h e f = cc

unfoldable pub each_way_run : (w : World) × Run (start one_station) each_way w × ShowsEachWay w
unfolding group_of way_of payload_sent frame_of_part last_part_of address_heard
each_way_run = (
  _,
  ((
    _,
    ((refl, λ x s h. cc h.0), small_5, zero_holds, refl),
    (
      _,
      (_, _, [], (refl, refl), refl, refl, refl),
      (
        _,
        (_, _, [], refl, refl, tt, refl),
        (
          _,
          (_, _, [], refl, refl, refl, refl),
          (
            _,
            (_, _, [], (refl, refl), refl, (record { uncontested = refl; uncut = refl }), refl),
            (
              _,
              (_, (refl, refl), refl, proper_new_memory _ _ _ Dm1, tt, refl),
              (
                _,
                (_, _, [], (refl, refl), refl, refl, refl),
                (
                  _,
                  (_, _, [], refl, refl, tt, refl),
                  (
                    _,
                    (_, (refl, refl), refl, proper_faulty_memory _ _ _ Dm1, tt, refl),
                    (
                      _,
                      (_, _, (_ ∷ _ ∷ []), (refl, refl), refl, refl, refl),
                      (
                        _,
                        (_, _, [], refl, refl, tt, refl),
                        (
                          _,
                          (_, _, (_ ∷ []), (refl, refl), refl, refl, refl),
                          (
                            _,
                            (_, _, [], refl, refl, tt, refl),
                            (
                              _,
                              (_, _, [], (refl, refl), refl, refl, refl),
                              (
                                _,
                                (_, _, [], refl, refl, tt, refl),
                                (
                                  _,
                                  (_, refl, (λ l. refl, tt), refl),
                                  (
                                    _,
                                    (_, _, [], refl, refl, refl, refl),
                                    (
                                      _,
                                      (_, _, [], (refl, refl), refl, ((record { uncontested = refl; uncut = refl }), refl, proper_session _ _ _, tt, (refl, another_address, refl)), refl),
                                      (
                                        _,
                                        (_, _, [], (refl, refl), refl, refl, refl),
                                        (
                                          _,
                                          (_, _, [], refl, refl, (tt, tt), refl),
                                          (
                                            _,
                                            (_, _, [], refl, refl, refl, refl),
                                            (
                                              _,
                                              (_, _, [], (refl, refl), refl, ((record { uncontested = refl; uncut = refl }), (_, refl, two_of_two)), refl),
                                              (
                                                _,
                                                (_, _, (_ ∷ []), (refl, refl), refl, refl, refl),
                                                (
                                                  _,
                                                  (_, _, [], refl, refl, tt, refl),
                                                  (
                                                    _,
                                                    (_, _, [], (refl, refl), refl, refl, refl),
                                                    (
                                                      _,
                                                      (_, _, [], refl, refl, tt, refl),
                                                      refl,
                                                    ),
                                                  ),
                                                ),
                                              ),
                                            ),
                                          ),
                                        ),
                                      ),
                                    ),
                                  ),
                                ),
                              ),
                            ),
                          ),
                        ),
                      ),
                    ),
                  ),
                ),
              ),
            ),
          ),
        ),
      ),
    ),
  )),
  record { station = _; only = refl; begun = refl; single_and_broadcast = refl; session = refl },
)

pub takeover_run : (w : World) × Run (start one_station) after_takeover w × ShowsAfterTakeover w
unfolding group_of way_of payload_sent frame_of_part last_part_of address_heard
takeover_run = (
  _,
  ((
    _,
    ((refl, λ x s h. cc h.0), small_5, zero_holds, refl),
    (
      _,
      (_, _, [], (refl, refl), refl, refl, refl),
      (
        _,
        (_, _, [], refl, refl, tt, refl),
        (
          _,
          (_, _, [], refl, refl, refl, refl),
          (
            _,
            (_, _, [], (refl, refl), refl, (record { uncontested = refl; uncut = refl }), refl),
            (
              _,
              (_, (refl, refl), refl, proper_faulty_memory _ _ _ Dm1, tt, refl),
              (
                _,
                (_, _, (_ ∷ _ ∷ []), (refl, refl), refl, refl, refl),
                (
                  _,
                  (_, _, [], refl, refl, tt, refl),
                  (
                    _,
                    (_, _, (_ ∷ []), (refl, refl), refl, refl, refl),
                    (
                      _,
                      (_, (_ ∷ []), [], refl, refl, refl, tt, refl),
                      (
                        _,
                        (_, _, [], (refl, refl), refl, refl, refl),
                        (
                          _,
                          (_, _, [], refl, refl, tt, refl),
                          (
                            _,
                            ((refl, λ x s h. other x _ s h.0 refl), small_4, zero_holds, refl),
                            (
                              _,
                              (_, _, [], (refl, refl), refl, refl, refl),
                              (
                                _,
                                (_, _, [], refl, refl, tt, refl),
                                (
                                  _,
                                  (_, _, [], (refl, refl), refl, tt, refl),
                                  (
                                    _,
                                    (_, (refl, refl), refl, proper_new_memory _ _ _ Dm1, tt, refl),
                                    (
                                      _,
                                      (_, _, [], (refl, refl), refl, refl, refl),
                                      (
                                        _,
                                        (_, _, [], refl, refl, tt, refl),
                                        refl,
                                      ),
                                    ),
                                  ),
                                ),
                              ),
                            ),
                          ),
                        ),
                      ),
                    ),
                  ),
                ),
              ),
            ),
          ),
        ),
      ),
    ),
  )),
  record { station = _; only = refl; begun = refl; gap_inside = refl; after_takeover = refl },
)
