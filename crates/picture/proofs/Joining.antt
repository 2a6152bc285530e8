-- Spans are joined with their neighbours, and one more is told.
use Rattle.std.proofs.Common.{◌≡◌, ◌+◌, ◌≤◌, max, List, [], ◌∷◌, ◌++◌, length, Result, Ok, Err, OnOk, refl, sym, ap, ◌∙◌, arith, append_assoc, length-append}
use Rattle.picture.specs.Spans.{worst_rank, told_in, IsDrawnAs, AreDrawnAs, IsJoined}
use Rattle.picture.specs.Tracks.{TrackValue, Keeps}
use Rattle.picture.specs.declared.span.Span.{Span}

told_in-append : (xs ys : List Span) → told_in (xs ++ ys) ≡ told_in xs + told_in ys
told_in-append [] ys = omega arith
told_in-append (x ∷ xs) ys = let h = told_in-append xs ys in omega (arith, h)

worst_rank-append : (xs ys : List Span) → worst_rank (xs ++ ys) ≡ max (worst_rank xs) (worst_rank ys)
worst_rank-append [] ys = omega arith
worst_rank-append (x ∷ xs) ys = let h = worst_rank-append xs ys in omega (arith, h)

some : (xs rest : List Span) (first : Span) → xs ≡ first ∷ rest → 1 ≤ length xs
some xs rest first e = rw e (omega arith)

-- neighbours of neighbours
drawn_as_both : (xs ys : List Span) (one other both : Span) → IsDrawnAs xs one → IsDrawnAs ys other → IsJoined one other both → IsDrawnAs (xs ++ ys) both
drawn_as_both xs ys one other both d e j =
    let b = d.begins in
    let z = e.ends in
    let many : 2 ≤ length (xs ++ ys) = omega (arith, length-append xs ys, some xs b.1 b.0 b.2, some ys e.begins.1 e.begins.0 e.begins.2) in
    record {
      alone = λ is. absurd (omega (arith, is, many));
      begins = (b.0, b.1 ++ ys, ap (λ l. l ++ ys) b.2, j.0 ∙ b.3);
      ends = (xs ++ z.0, z.1, ap (λ l. xs ++ l) z.2 ∙ sym (append_assoc xs z.0 (z.1 ∷ [])), j.1 ∙ z.3);
      counted = omega (arith, j.2, d.counted, e.counted, told_in-append xs ys);
      worst = omega (arith, j.3, d.worst, e.worst, worst_rank-append xs ys);
    }

-- two neighbours are drawn as one
pub drawn_joined : (told before behind : List Span) (one other both : Span) → IsJoined one other both → AreDrawnAs told (before ++ one ∷ other ∷ behind) → AreDrawnAs told (before ++ both ∷ behind)
drawn_joined told [] behind one other both j h =
    let rest = h.4 in
    (h.0 ++ rest.0, rest.1, h.2 ∙ ap (λ l. h.0 ++ l) rest.2 ∙ sym (append_assoc h.0 rest.0 rest.1), drawn_as_both h.0 rest.0 one other both h.3 rest.3 j, rest.4)
drawn_joined told (span ∷ before) behind one other both j h = (h.0, h.1, h.2, h.3, drawn_joined h.1 before behind one other both j h.4)

-- one that is told is drawn as it is
drawn_alone : (span : Span) → IsDrawnAs (span ∷ []) span
drawn_alone span = record {
  alone = λ is. refl;
  begins = (span, [], refl, refl);
  ends = ([], span, refl, refl);
  counted = omega arith;
  worst = omega arith;
}

-- one more is told
pub drawn_more : (told drawn : List Span) (span : Span) → AreDrawnAs told drawn → AreDrawnAs (told ++ span ∷ []) (drawn ++ span ∷ [])
drawn_more told [] span h = (span ∷ [], [], ap (λ ts. ts ++ span ∷ []) h, drawn_alone span, refl)
drawn_more told (one ∷ drawn) span h =
    (h.0, h.1 ++ span ∷ [], ap (λ ts. ts ++ span ∷ []) h.2 ∙ append_assoc h.0 h.1 (span ∷ []), h.3, drawn_more h.1 drawn span h.4)

-- no more are drawn than were told
no_more : (told drawn : List Span) → AreDrawnAs told drawn → length drawn ≤ length told
no_more told [] h = omega arith
no_more told (one ∷ drawn) h =
    let here = h.3.begins in
    omega (arith, no_more h.1 drawn h.4, some h.0 here.1 here.0 here.2, ap length h.2, length-append h.0 h.1)

-- one more is told, and there is room for it
pub kept_more : (told : List Span) (old new : TrackValue) (span : Span) → new.most ≡ old.most → new.spans ≡ old.spans ++ span ∷ [] → Keeps told old
    → Keeps (told ++ span ∷ []) new
kept_more told old new span m e h = record {
  exact = λ within. e ∙ ap (λ ts. ts ++ span ∷ []) (h.exact (omega (arith, within, m, length-append told (span ∷ []))));
  drawn = rw e (drawn_more told old.spans span h.drawn);
}

-- one more is told, and neighbours were joined for it
pub kept_thinned : (told between : List Span) (old new : TrackValue) (span : Span) → new.most ≡ old.most → old.most ≤ length old.spans
    → AreDrawnAs told between → new.spans ≡ between ++ span ∷ [] → Keeps told old → Keeps (told ++ span ∷ []) new
kept_thinned told between old new span m full d e h = record {
  exact = λ within. absurd (omega (arith, within, m, full, length-append told (span ∷ []), no_more told old.spans h.drawn));
  drawn = rw e (drawn_more told between span d);
}

-- one more was told, where it was put
pub more_if_ok : {T E : Type 0} (r : Result T E) (old new : TrackValue) (items : List Span) (span : Span) → new.most ≡ old.most → items ≡ old.spans → OnOk r (new.spans ≡ items ++ span ∷ [])
    → OnOk r ((told : List Span) → Keeps told old → Keeps (told ++ span ∷ []) new)
more_if_ok (Ok v) old new items span m i e = λ told h. kept_more told old new span m (e ∙ ap (λ l. l ++ span ∷ []) i) h
more_if_ok (Err x) old new items span m i e = tt

-- the same where neighbours were joined for it
pub thinned_if_ok : {T E : Type 0} (r : Result T E) (old between new : TrackValue) (items : List Span) (span : Span) → new.most ≡ old.most → old.most ≤ length old.spans
    → ((told : List Span) → AreDrawnAs told old.spans → AreDrawnAs told between.spans) → items ≡ between.spans → OnOk r (new.spans ≡ items ++ span ∷ [])
    → OnOk r ((told : List Span) → Keeps told old → Keeps (told ++ span ∷ []) new)
thinned_if_ok (Ok v) old between new items span m full d i e = λ told h. kept_thinned told between.spans old new span m full (d told h.drawn) (e ∙ ap (λ l. l ++ span ∷ []) i) h
thinned_if_ok (Err x) old between new items span m full d i e = tt
