-- Which lines are read as those of `candump -L`, and what the others say.
use Rattle.std.proofs.Common.{◌≡◌, ◌≢◌, ◌⊎◌, ℕ, ◌^◌, ◌<◌, ◌≤◌, true, List, [], ◌∷◌, ◌++◌, length, get_or, map, Option, Some, append_assoc, arith, refl, ap, sym, inl, inr, ◌∙◌}
use Rattle.std.specs.Prelude.{All}
use Rattle.std.proofs.lemmas.Bool.Decides.{nat_tests}
use Rattle.std.proofs.lemmas.List.{length-append}
use Rattle.std.proofs.lemmas.List.Elements.{All-head, All-tail, All-nil, All-cons, All-weaker}
use Rattle.can_frame.specs.FrameText.{id_text}
use Rattle.can_frame.specs.FrameValue.{FrameValue}
use Rattle.candump_line.specs.Forms.{count_word, IsCountedFrame, IsJoinedFrame, IsLongFrame}
use Rattle.candump_line.specs.LineForms.{BeginsWithTime, EndsLine, HasText, IsMarkedText, IsPlainBus, IsTimed, IsUntimed, SpellsTime}
use Rattle.candump_line.specs.LineText.{byte_digits, IsDataFrame, IsLineEnd}
use Rattle.candump_line.specs.Logged.{frame_told, overflow_told}
use Rattle.candump_line.specs.LoggedParts.{IsLogged}
use Rattle.candump_line.specs.LostFrames.{tells_of_lost_frames}
use Rattle.candump_line.specs.Told.{content_told, Says}
use Rattle.candump_line.specs.Words.{words_of}
use Rattle.candump_line.specs.declared.content.Content.TheVariants.{Frame, Overflow}
use Rattle.candump_line.specs.declared.line.Line.{Line}
use Rattle.candump_line.proofs.FrontLemmas.{IsBlank, front_of_word, head_of_bus, head_of_id, of_joined, same_front, time_marks}
use Rattle.candump_line.proofs.WordLemmas.{IsDark, cons_same, words-before, words-blanks, words-cut, words-gap, words-nil}

dark_seen : (c : ℕ) → 32 < c → IsDark c
dark_seen c h = grind (arith, nat_tests)

-- a word with the end of its line
word_at_end : (word end : List ℕ) → 0 < length word → All IsDark word → IsLineEnd end → words_of (word ++ end) ≡ word ∷ []
word_at_end word end some dark (inl e) =
    ap (λ t. words_of (word ++ t)) e ∙ words-cut word [] [] some dark (All-nil IsBlank) (omega arith) (λ h. refl) ∙ ap (λ ws. word ∷ ws) words-nil
word_at_end word end some dark (inr (inl e)) = ap (λ t. words_of (word ++ t)) e ∙ words-before word 10 [] some dark refl ∙ ap (λ ws. word ∷ ws) words-nil
word_at_end word end some dark (inr (inr e)) =
    ap (λ t. words_of (word ++ t)) e ∙ words-before word 13 (10 ∷ []) some dark refl ∙ ap (λ ws. word ∷ ws) (words-blanks (10 ∷ []) (All-cons IsBlank 10 [] refl (All-nil IsBlank)))

two_words : (bus frame end : List ℕ) → 0 < length bus → All IsDark bus → 0 < length frame → All IsDark frame → IsLineEnd end
    → words_of ((32 ∷ (bus ++ 32 ∷ frame)) ++ end) ≡ bus ∷ frame ∷ []
two_words bus frame end named dark some seen ends =
    words-gap (32 ∷ []) ((bus ++ 32 ∷ frame) ++ end) (All-cons IsBlank 32 [] refl (All-nil IsBlank)) ∙ ap words_of (append_assoc bus (32 ∷ frame) end)
    ∙ words-before bus 32 (frame ++ end) named dark refl ∙ ap (λ ws. bus ∷ ws) (word_at_end frame end some seen ends)

-- the first parenthesis closes one time
first_mark : (xs ys zs ws : List ℕ) → All (λ c. c ≢ 41) xs → All (λ c. c ≢ 41) zs → xs ++ 41 ∷ ys ≡ zs ++ 41 ∷ ws → ys ≡ ws
first_mark [] ys [] ws hx hz e = (cons_same 41 41 ys ws e).1
first_mark [] ys (z ∷ zs) ws hx hz e = absurd (All-head (λ c. c ≢ 41) z zs hz (sym (cons_same 41 z ys (zs ++ 41 ∷ ws) e).0))
first_mark (x ∷ xs) ys [] ws hx hz e = absurd (All-head (λ c. c ≢ 41) x xs hx (cons_same x 41 (xs ++ 41 ∷ ys) ws e).0)
first_mark (x ∷ xs) ys (z ∷ zs) ws hx hz e =
    first_mark xs ys zs ws (All-tail (λ c. c ≢ 41) x xs hx) (All-tail (λ c. c ≢ 41) z zs hz) (cons_same x z (xs ++ 41 ∷ ys) (zs ++ 41 ∷ ws) e).1

inner_of : (line inner tail : List ℕ) → IsMarkedText line inner → line ≡ 40 ∷ tail → inner ≡ 40 ∷ tail
inner_of line inner tail (inl e) h = sym e ∙ h
inner_of line inner tail (inr e) h =
    let clash : 239 ≡ 40 = ap (λ t. get_or t 0 0) (sym e ∙ h) in
    absurd (omega (arith, clash))

-- what stands behind the parenthesis of a line that begins as one of `candump -L`
logged_front : (line text bus : List ℕ) (l : IsLogged text bus) (ends : EndsLine line text) → line ≡ 40 ∷ (l.time ++ 41 ∷ ((32 ∷ (bus ++ 32 ∷ l.frame)) ++ ends.end))
logged_front line text bus l ends =
    ends.laid ∙ ap (λ t. t ++ ends.end) l.laid ∙ ap (λ t. 40 ∷ t) (append_assoc l.time (41 ∷ 32 ∷ (bus ++ 32 ∷ l.frame)) ends.end)

-- such a line has two words behind its time
pub logged_words : (line text bus inner time rest : List ℕ) (micros : ℕ) (l : IsLogged text bus) → EndsLine line text → IsMarkedText line inner → BeginsWithTime inner time rest → SpellsTime time micros
    → words_of rest ≡ bus ∷ l.frame ∷ []
logged_words line text bus inner time rest micros l ends marked begins spells =
    let tail = l.time ++ 41 ∷ ((32 ∷ (bus ++ 32 ∷ l.frame)) ++ ends.end) in
    let begun = inner_of line inner tail marked (logged_front line text bus l ends) in
    let same = same_front [] begins.blanks (40 ∷ tail) (40 ∷ (time ++ 41 ∷ rest)) (All-nil IsBlank) begins.blank refl refl (sym begun ∙ begins.laid) in
    let behind = first_mark l.time ((32 ∷ (bus ++ 32 ∷ l.frame)) ++ ends.end) time rest l.timed (time_marks time micros spells) (cons_same 40 40 tail (time ++ 41 ∷ rest) same).1 in
    ap words_of (sym behind)
    ∙ two_words bus l.frame ends.end l.name.0 (All-weaker (λ c. 32 < c) IsDark dark_seen bus l.name.1) l.seen.0 (All-weaker (λ c. 32 < c) IsDark dark_seen l.frame l.seen.1) ends.is_end

-- and begins with its parenthesis
pub logged_head : (line text bus inner word : List ℕ) (words : List (List ℕ)) → IsLogged text bus → EndsLine line text → IsMarkedText line inner → words_of inner ≡ word ∷ words → get_or word 0 0 ≡ 40
logged_head line text bus inner word words l ends marked e =
    let tail = l.time ++ 41 ∷ ((32 ∷ (bus ++ 32 ∷ l.frame)) ++ ends.end) in
    let begun = inner_of line inner tail marked (logged_front line text bus l ends) in
    front_of_word (40 ∷ []) tail word words (All-cons IsDark 40 [] refl (All-nil IsDark)) (omega arith) (sym (ap words_of begun) ∙ e) 0 (omega arith)

-- the words of a frame with the number of its bytes
pub length-counted : (words : List (List ℕ)) (f : FrameValue) → IsCountedFrame words f → 2 ≤ length words
length-counted words f h =
    omega (arith, ap length h.laid, length-append h.flags (id_text f.id ∷ count_word (length f.bytes) ∷ (map byte_digits f.bytes ++ h.remarks)))

content_frame : (f : FrameValue) → IsDataFrame f → content_told f ≡ Frame f
content_frame f h = let small = h.id in grind (arith, nat_tests)

pub frame_said : (time : Option ℕ) (bus : Option (List ℕ)) (f : FrameValue) (line : Line) → IsDataFrame f → Says time bus (content_told f) line → frame_told line ≡ Some (time, bus, f)
frame_said time bus f line lawful h = rw (content_frame f lawful) at h

content_overflow : (f : FrameValue) → 2 ^ 29 ≤ f.id → tells_of_lost_frames f.id f.bytes ≡ true → content_told f ≡ Overflow
content_overflow f h lost = grind (arith, nat_tests)

pub overflow_said : (time : Option ℕ) (bus : Option (List ℕ)) (f : FrameValue) (line : Line) → 2 ^ 29 ≤ f.id → tells_of_lost_frames f.id f.bytes ≡ true → Says time bus (content_told f) line
    → overflow_told line ≡ Some (time, bus)
overflow_said time bus f line h lost said = rw (content_overflow f h lost) at said

pub not_long : (line text inner : List ℕ) → EndsLine line text → HasText line inner → 4096 < length text → ⊥
not_long line text inner ends has long = omega (arith, ap length ends.laid, length-append text ends.end, has.short, long)

-- a line of `candump -L` has one word behind its bus
pub one_word : (line text name bus : List ℕ) (micros : ℕ) (words : List (List ℕ)) (l : IsLogged text name) → EndsLine line text → IsTimed line micros bus words → words ≡ l.frame ∷ []
one_word line text name bus micros words l ends h =
    (cons_same bus name words (l.frame ∷ []) (sym h.behind ∙ logged_words line text name h.text h.time h.rest micros l ends h.has.marked h.begins h.spelled)).1

pub not_one : {P : Type 0} (line text name bus : List ℕ) (micros : ℕ) (words : List (List ℕ)) → IsLogged text name → EndsLine line text → IsTimed line micros bus words → 2 ≤ length words → P
not_one line text name bus micros words l ends h two = absurd (omega (arith, two, ap length (one_word line text name bus micros words l ends h)))

-- one without a time begins with another character
pub not_head : {P : Type 0} (line text name word : List ℕ) (words : List (List ℕ)) → IsLogged text name → EndsLine line text → IsUntimed line (word ∷ words) → get_or word 0 0 ≢ 40 → P
not_head line text name word words l ends h other = absurd (other (logged_head line text name h.text word words l ends h.has.marked h.laid))

pub bus_head : (bus : List ℕ) → IsPlainBus bus → get_or bus 0 0 ≢ 40
bus_head bus plain = (head_of_bus bus plain).3

pub id_head : (n : ℕ) → get_or (id_text n) 0 0 ≢ 40
id_head n = (head_of_id n (id_text n) refl).3

pub joined_head : (n : ℕ) (rest : List ℕ) → get_or (id_text n ++ rest) 0 0 ≢ 40
joined_head n rest = (head_of_id n (id_text n ++ rest) (of_joined n 0 rest (omega arith))).3

-- the words of a line that has them as they are
pub untimed_as : (line : List ℕ) (words more : List (List ℕ)) → words ≡ more → IsUntimed line words → IsUntimed line more
untimed_as line words more e h = rw e at h

-- the identifier of a frame of `candump -L` has 29 bits
pub small_logged : (line text name bus : List ℕ) (micros : ℕ) (words : List (List ℕ)) (f : FrameValue) → IsLogged text name → EndsLine line text → IsTimed line micros bus words
    → IsCountedFrame words f ⊎ IsJoinedFrame words f → IsLongFrame f → f.id < 2 ^ 29
small_logged line text name bus micros words f l ends h (inl counted) long = not_one line text name bus micros words l ends h (length-counted words f counted)
small_logged line text name bus micros words f l ends h (inr joined) long =
    let one = one_word line text name bus micros words l ends h in
    l.id f.id (35 ∷ joined.bytes) (omega (arith, long.id)) (cons_same l.frame (id_text f.id ++ 35 ∷ joined.bytes) [] joined.side (sym one ∙ joined.laid)).0

pub joined_as : (words more : List (List ℕ)) (f : FrameValue) → words ≡ more → IsJoinedFrame more f → IsJoinedFrame words f
joined_as words more f e h = rw e h
