-- Neighbours are joined in place: what is done stands at the front, what is still to be looked at at the end.
use Rattle.std.proofs.Common.{◌≡◌, ℕ, ◌+◌, ◌<◌, ◌≤◌, List, [], ◌∷◌, ◌++◌, length, take, drop, set, get_or, sym, ap, ◌∙◌, arith, append_assoc}
use Rattle.std.proofs.lemmas.List.{append-nil, drop_all, drop_more, drop-set-lt, take_more, take_more_set, take-append-drop}
use Rattle.picture.specs.Spans.{AreDrawnAs, IsJoined}
use Rattle.picture.proofs.Joining.{drawn_joined}
use Rattle.picture.specs.declared.span.Span.{Span}

-- the spans that are there when those at the front are done, and those from a place on are not
abbrev pub there : List Span → ℕ → ℕ → List Span
there spans last place = take (last + 1) spans ++ drop place spans

-- whatever is drawn as the one is drawn as the other
abbrev pub Redraws : List Span → List Span → Type 0
Redraws old new = (told : List Span) → AreDrawnAs told old → AreDrawnAs told new

-- nothing is joined yet
pub at_first : (spans : List Span) → Redraws spans (there spans 0 1)
at_first spans told h = rw (take-append-drop 1 spans) h

ahead : (spans : List Span) (last place : ℕ) (one next : Span) → last < place → place < length spans → one ≡ get_or spans last one → next ≡ get_or spans place next
    → there spans last place ≡ take last spans ++ one ∷ next ∷ drop (place + 1) spans
ahead spans last place one next b l is next_is =
    let front : take (last + 1) spans ≡ take last spans ++ one ∷ [] = take_more spans last one (omega (arith, b, l)) ∙ ap (λ s. take last spans ++ s ∷ []) (sym is) in
    let end : drop place spans ≡ next ∷ drop (place + 1) spans = drop_more spans place next l ∙ ap (λ s. s ∷ drop (place + 1) spans) (sym next_is) in
    rw (front, end) (append_assoc (take last spans) (one ∷ []) (next ∷ drop (place + 1) spans))

-- a neighbour is joined to the last that is done
pub joined_there : (first spans : List Span) (last place : ℕ) (one next both : Span) → last < place → place < length spans → one ≡ get_or spans last one → next ≡ get_or spans place next
    → IsJoined one next both → Redraws first (there spans last place) → Redraws first (there (set spans last both) last (place + 1))
joined_there first spans last place one next both b l is next_is j h told t =
    let now = rw (ahead spans last place one next b l is next_is) at (h told t) in
    let done = drawn_joined told (take last spans) (drop (place + 1) spans) one next both j now in
    let same : there (set spans last both) last (place + 1) ≡ take last spans ++ both ∷ drop (place + 1) spans =
    rw (take_more_set spans last both (omega (arith, b, l)), drop-set-lt (place + 1) spans last both (omega (arith, b)))
    (append_assoc (take last spans) (both ∷ []) (drop (place + 1) spans)) in
    rw same done

-- a neighbour stands for itself
pub passed_there : (first spans : List Span) (last place : ℕ) (next : Span) → last < place → place < length spans → next ≡ get_or spans place next
    → Redraws first (there spans last place) → Redraws first (there (set spans (last + 1) next) (last + 1) (place + 1))
passed_there first spans last place next b l next_is h told t =
    let end : drop place spans ≡ next ∷ drop (place + 1) spans = drop_more spans place next l ∙ ap (λ s. s ∷ drop (place + 1) spans) (sym next_is) in
    let now = rw end at (h told t) in
    let same : there (set spans (last + 1) next) (last + 1) (place + 1) ≡ take (last + 1) spans ++ next ∷ drop (place + 1) spans =
    rw (take_more_set spans (last + 1) next (omega (arith, b, l)), drop-set-lt (place + 1) spans (last + 1) next (omega (arith, b)))
    (append_assoc (take (last + 1) spans) (next ∷ []) (drop (place + 1) spans)) in
    rw same now

-- all were looked at
pub all_there : (first spans : List Span) (last place : ℕ) → length spans ≤ place → Redraws first (there spans last place) → Redraws first (take (last + 1) spans)
all_there first spans last place l h told t =
    let e : there spans last place ≡ take (last + 1) spans = ap (λ d. take (last + 1) spans ++ d) (drop_all place spans l) ∙ append-nil (take (last + 1) spans) in
    rw e at (h told t)

-- the newest two are joined
pub newest_joined : (spans : List Span) (i n : ℕ) (one other both : Span) → i + 2 ≡ length spans → n ≡ i + 1 → one ≡ get_or spans i one → other ≡ get_or spans n other
    → IsJoined one other both → Redraws spans (take n (set spans i both))
newest_joined spans i n one other both len is_n is other_is j told t =
    let all : spans ≡ there spans i n = rw is_n (sym (take-append-drop (i + 1) spans)) in
    let now = rw (ahead spans i n one other (omega (arith, is_n)) (omega (arith, len, is_n)) is other_is) at (rw all at t) in
    let end : drop (n + 1) spans ≡ [] = drop_all (n + 1) spans (omega (arith, len, is_n)) in
    let done = drawn_joined told (take i spans) (drop (n + 1) spans) one other both j now in
    let same : take n (set spans i both) ≡ take i spans ++ both ∷ [] = ap (λ m. take m (set spans i both)) is_n ∙ take_more_set spans i both (omega (arith, len)) in
    rw same (rw end at done)
