use Rattle.std.specs.Prelude.{codes}
use Rattle.std.proofs.Common.{◌≡◌, ℕ, List, ◌++◌, Some, inl, inr, length, arith, refl, ap, ◌∙◌}
use Rattle.can_frame.specs.FrameValue.{FrameValue}
use Rattle.candump_line.specs.LineText.{line_text, ticks_text, timed_line, IsFraction}
use Rattle.candump_line.proofs.LineLemmas.{line_is_timed, seen_line, length-line, not_some}
use Rattle.candump_line.proofs.TimeLemmas.{parts_of, micros_of_micros}
use Rattle.std.proofs.Common.{◌∷◌}
use Rattle.can_frame.specs.FrameText.{id_text}
use Rattle.candump_line.proofs.ChoiceLemmas.{bus_head, frame_said, id_head, joined_head, length-counted, not_head, not_long, not_one, overflow_said, small_logged, joined_as, untimed_as}
use Rattle.candump_line.proofs.FormLemmas.{long_of}
use Rattle.candump_line.proofs.read.read_line.Goals as goal

six : IsFraction 6
six = inr (inl refl)

as_timed : (time : ℕ) (bus : List ℕ) (f : FrameValue) (end : List ℕ) → line_text time bus f ++ end ≡ timed_line (ticks_text 6 time) bus f ++ end
as_timed time bus f end = ap (λ t. t ++ end) (line_is_timed time bus f)

pub returns-then-text-gt-LINE_LIMIT-clause-reads : goal.returns-then-text-gt-LINE_LIMIT-clause-reads
returns-then-text-gt-LINE_LIMIT-clause-reads c = λ digits ticks bus f end three small named lawful ends e.
    let parts = parts_of digits ticks three small in
    let text = c.without_end-text.ensures.text (timed_line (ticks_text digits ticks) bus f) end (seen_line digits ticks bus f parts named) ends e in
    let len = ap length text in
    let short = length-line digits ticks bus f parts named lawful in
    absurd (omega arith)

pub returns-then-text-gt-LINE_LIMIT-clause-reads_back : goal.returns-then-text-gt-LINE_LIMIT-clause-reads_back
returns-then-text-gt-LINE_LIMIT-clause-reads_back c = λ time bus f end small named lawful ends e.
    let parts = parts_of 6 time six small in
    let text = c.without_end-text.ensures.text (timed_line (ticks_text 6 time) bus f) end (seen_line 6 time bus f parts named) ends (e ∙ as_timed time bus f end) in
    let len = ap length text in
    let short = length-line 6 time bus f parts named lawful in
    absurd (omega arith)

pub returns-in-Some-clause-reads : goal.returns-in-Some-clause-reads
returns-in-Some-clause-reads c = λ digits ticks bus f end three small named lawful ends e.
    let parts = parts_of digits ticks three small in
    let text = c.without_end-text.ensures.text (timed_line (ticks_text digits ticks) bus f) end (seen_line digits ticks bus f parts named) ends e in
    c.in-Some.ensures.reads digits ticks bus f three small named lawful text

pub returns-in-Some-clause-reads_back : goal.returns-in-Some-clause-reads_back
returns-in-Some-clause-reads_back c = λ time bus f end small named lawful ends e.
    let parts = parts_of 6 time six small in
    let text = c.without_end-text.ensures.text (timed_line (ticks_text 6 time) bus f) end (seen_line 6 time bus f parts named) ends (e ∙ as_timed time bus f end) in
    c.in-Some.ensures.reads 6 time bus f six small named lawful text ∙ ap (λ n. Some (n, bus, f)) (micros_of_micros time)

pub returns-in-None-clause-reads : goal.returns-in-None-clause-reads
returns-in-None-clause-reads c = λ digits ticks bus f end three small named lawful ends e.
    let parts = parts_of digits ticks three small in
    let text = c.without_end-text.ensures.text (timed_line (ticks_text digits ticks) bus f) end (seen_line digits ticks bus f parts named) ends e in
    absurd (not_some (c.in-None.ensures.reads digits ticks bus f three small named lawful text))

pub returns-in-None-clause-reads_back : goal.returns-in-None-clause-reads_back
returns-in-None-clause-reads_back c = λ time bus f end small named lawful ends e.
    let parts = parts_of 6 time six small in
    let text = c.without_end-text.ensures.text (timed_line (ticks_text 6 time) bus f) end (seen_line 6 time bus f parts named) ends (e ∙ as_timed time bus f end) in
    absurd (not_some (c.in-None.ensures.reads 6 time bus f six small named lawful text))

pub returns-then-text-gt-LINE_LIMIT-clause-timed_plain : goal.returns-then-text-gt-LINE_LIMIT-clause-timed_plain
returns-then-text-gt-LINE_LIMIT-clause-timed_plain c = λ micros bus words f h form lawful.
    absurd (not_long _ _ h.text c.without_end-text.ensures.end h.has c.if-text-gt-LINE_LIMIT.true)

pub returns-in-Some-clause-timed_plain : goal.returns-in-Some-clause-timed_plain
returns-in-Some-clause-timed_plain c = λ micros bus words f h form lawful.
    not_one _ _ _ bus micros words c.in-Some.ensures.parts c.without_end-text.ensures.end h (length-counted words f form)

pub returns-in-None-clause-timed_plain : goal.returns-in-None-clause-timed_plain
returns-in-None-clause-timed_plain c = λ micros bus words f h form lawful.
    frame_said _ _ f _ lawful ((c.read_any.ensures h.text h.has).timed h.time h.rest bus micros words f h.begins h.spelled (long_of f lawful) h.behind (inl form))

pub returns-then-text-gt-LINE_LIMIT-clause-plain : goal.returns-then-text-gt-LINE_LIMIT-clause-plain
returns-then-text-gt-LINE_LIMIT-clause-plain c = λ bus words f h named form lawful.
    absurd (not_long _ _ h.text c.without_end-text.ensures.end h.has c.if-text-gt-LINE_LIMIT.true)

pub returns-in-Some-clause-plain : goal.returns-in-Some-clause-plain
returns-in-Some-clause-plain c = λ bus words f h named form lawful.
    not_head _ _ _ bus words c.in-Some.ensures.parts c.without_end-text.ensures.end h (bus_head bus named)

pub returns-in-None-clause-plain : goal.returns-in-None-clause-plain
returns-in-None-clause-plain c = λ bus words f h named form lawful.
    frame_said _ _ f _ lawful ((c.read_any.ensures h.text h.has).counted bus words f named (long_of f lawful) h.laid form)

pub returns-then-text-gt-LINE_LIMIT-clause-directed : goal.returns-then-text-gt-LINE_LIMIT-clause-directed
returns-then-text-gt-LINE_LIMIT-clause-directed c = λ micros bus words f h form two lawful.
    absurd (not_long _ _ h.text c.without_end-text.ensures.end h.has c.if-text-gt-LINE_LIMIT.true)

pub returns-in-Some-clause-directed : goal.returns-in-Some-clause-directed
returns-in-Some-clause-directed c = λ micros bus words f h form two lawful.
    not_one _ _ _ bus micros words c.in-Some.ensures.parts c.without_end-text.ensures.end h two

pub returns-in-None-clause-directed : goal.returns-in-None-clause-directed
returns-in-None-clause-directed c = λ micros bus words f h form two lawful.
    frame_said _ _ f _ lawful ((c.read_any.ensures h.text h.has).timed h.time h.rest bus micros words f h.begins h.spelled (long_of f lawful) h.behind (inr form))

pub returns-then-text-gt-LINE_LIMIT-clause-sent : goal.returns-then-text-gt-LINE_LIMIT-clause-sent
returns-then-text-gt-LINE_LIMIT-clause-sent c = λ words f h form lawful.
    absurd (not_long _ _ h.text c.without_end-text.ensures.end h.has c.if-text-gt-LINE_LIMIT.true)

pub returns-in-Some-clause-sent : goal.returns-in-Some-clause-sent
returns-in-Some-clause-sent c = λ words f h form lawful.
    not_head _ _ _ (id_text f.id ++ 35 ∷ form.bytes) form.side c.in-Some.ensures.parts c.without_end-text.ensures.end (untimed_as _ words _ form.laid h) (joined_head f.id (35 ∷ form.bytes))

pub returns-in-None-clause-sent : goal.returns-in-None-clause-sent
returns-in-None-clause-sent c = λ words f h form lawful.
    frame_said _ _ f _ lawful ((c.read_any.ensures h.text h.has).joined f (long_of f lawful) (joined_as _ words f h.laid form))

pub returns-then-text-gt-LINE_LIMIT-clause-answered : goal.returns-then-text-gt-LINE_LIMIT-clause-answered
returns-then-text-gt-LINE_LIMIT-clause-answered c = λ f h lawful.
    absurd (not_long _ _ h.text c.without_end-text.ensures.end h.has c.if-text-gt-LINE_LIMIT.true)

pub returns-in-Some-clause-answered : goal.returns-in-Some-clause-answered
returns-in-Some-clause-answered c = λ f h lawful.
    not_head _ _ _ (id_text f.id) _ c.in-Some.ensures.parts c.without_end-text.ensures.end h (id_head f.id)

pub returns-in-None-clause-answered : goal.returns-in-None-clause-answered
returns-in-None-clause-answered c = λ f h lawful.
    frame_said _ _ f _ lawful ((c.read_any.ensures h.text h.has).spread f lawful h.laid)

pub returns-then-text-gt-LINE_LIMIT-clause-overflow : goal.returns-then-text-gt-LINE_LIMIT-clause-overflow
returns-then-text-gt-LINE_LIMIT-clause-overflow c = λ micros bus words f h form long high lost.
    absurd (not_long _ _ h.text c.without_end-text.ensures.end h.has c.if-text-gt-LINE_LIMIT.true)

pub returns-in-Some-clause-overflow : goal.returns-in-Some-clause-overflow
returns-in-Some-clause-overflow c = λ micros bus words f h form long high lost.
    let small = small_logged _ _ _ bus micros words f c.in-Some.ensures.parts c.without_end-text.ensures.end h form long in
    absurd (omega (arith, high, small))

pub returns-in-None-clause-overflow : goal.returns-in-None-clause-overflow
returns-in-None-clause-overflow c = λ micros bus words f h form long high lost.
    overflow_said _ _ f _ high lost ((c.read_any.ensures h.text h.has).timed h.time h.rest bus micros words f h.begins h.spelled long h.behind form)

pub returns-then-text-gt-LINE_LIMIT-clause-dropped : goal.returns-then-text-gt-LINE_LIMIT-clause-dropped
returns-then-text-gt-LINE_LIMIT-clause-dropped c = λ bus count words h form small. absurd (not_long _ _ h.text c.without_end-text.ensures.end h.has c.if-text-gt-LINE_LIMIT.true)

pub returns-in-Some-clause-dropped : goal.returns-in-Some-clause-dropped
returns-in-Some-clause-dropped c = λ bus count words h form small.
    not_head _ _ _ (codes "DROPCOUNT:") _ c.in-Some.ensures.parts c.without_end-text.ensures.end (untimed_as _ words _ form.laid h) (λ e. omega (arith, e))

pub returns-in-None-clause-dropped : goal.returns-in-None-clause-dropped
returns-in-None-clause-dropped c = λ bus count words h form small.
    (c.read_any.ensures h.text h.has).dropped bus count (record { frames = form.frames; more = form.more; laid = h.laid ∙ form.laid }) small
