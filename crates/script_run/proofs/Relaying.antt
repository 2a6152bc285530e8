-- What was told of a whole script, by what was told of each line.
use Rattle.std.proofs.Common.{◌≡◌, ◌≢◌, ◌⊎◌, ℕ, ◌+◌, ◌∙◌, List, [], ◌∷◌, ◌++◌, Option, Some, None, Bool, true, false, is_some, OnOk, Result, Ok, Err, codes, append_assoc, ap, inl, inr, refl, subst, sym, true≢false}
use Rattle.std.specs.Fmt.{decimal}
use Rattle.std.specs.Io.KnownBytes.{Appends, Keeps}
use Rattle.std.specs.List.{flat_map}
use Rattle.std.proofs.KnownBytes.{Appends-kept, Appends-nil, Appends-trans}
use Rattle.bus_model.specs.Heard.{counted}
use Rattle.journal.specs.Journal.{GarageValue}
use Rattle.script_answer.specs.declared.refusal.Refusal.{Refusal}
use Rattle.script_line.specs.declared.reasons.LineReason.{LineReason}
use Rattle.script_run.specs.Lines.{AnswersAll, IsScriptAnswered, LineTold, Silent, told_text}
use Rattle.script_run.specs.Sinks.{Closes, TakesAll, TakesScript, Taking}
use Rattle.script_run.specs.declared.line_reporter.LineForm.{LineForm}
use Rattle.script_run.specs.declared.line_reporter.LineForm.TheVariants as form
use Rattle.script_run.specs.declared.wire.Wire.{Wire}
use Rattle.script_run.specs.Telling.{IsCarriedOut, IsToldIf, TellsAll, TellsOf, asked_log, no_seat_text, refusal_told, refused_text, refused_with, seats_with, why_text}

-- the texts of all lines, where each was written behind those before it
pub wrote_all : {S : Type 0} {K : Type 0} (by : Taking S) (kept : S → K) (text : S → Option (List ℕ)) (lines : List (List ℕ)) (s t : Option GarageValue) (x y : S)
    → ((a b : S) → by.begins a b → b ≡ a) → ((a b : S) (told : LineTold) → by.takes a told b → (kept b ≡ kept a) × Appends (text a) (text b) (told_text told))
    → ((line : List ℕ) (had : Bool) (a b : S) → by.ends line had a b → b ≡ a)
    → TakesAll by lines s t x y → (told : List LineTold) × AnswersAll lines s told t × (kept y ≡ kept x) × Appends (text x) (text y) (flat_map told_text told)
unfolding TakesAll AnswersAll
wrote_all by kept text [] s t x y begun took ended h =
    ([], (refl, h.0), ap kept h.1, subst (λ k. Appends (text x) (text k) []) (sym h.1) (Appends-nil (text x)))
wrote_all by kept text (line ∷ lines) s t x y begun took ended h =
    let rest = wrote_all by kept text lines h.1 t h.2 y begun took ended h.4 in
    elim h.3 [
      | inl silent ↦
          let same : h.2 ≡ x = begun x h.2 silent.3 in (
            Silent ∷ rest.0,
            (Silent, h.1, rest.0, refl, inl (silent.0, refl, silent.2), rest.1),
            rest.2 ∙ ap kept same,
            subst (λ k. Appends (text k) (text y) (flat_map told_text rest.0)) same rest.3,
          )
      | inr spoken ↦
          let b = spoken.2 in
          let before : b.0 ≡ x = begun x b.0 b.2 in
          let after : h.2 ≡ b.1 = ended line (is_some s) b.1 h.2 b.4 in
          let took_it = took b.0 b.1 h.0 b.3 in (
            h.0 ∷ rest.0,
            (h.0, h.1, rest.0, refl, inr (spoken.0, spoken.1), rest.1),
            rest.2 ∙ ap kept after ∙ took_it.0 ∙ ap kept before,
            Appends-trans (text x) (text h.2) (text y) (told_text h.0) (flat_map told_text rest.0)
                (subst (λ k. Appends (text k) (text h.2) (told_text h.0)) before (subst (λ k. Appends (text b.0) (text k) (told_text h.0)) (sym after) took_it.1)) rest.3,
          )
    ]

-- where nothing is made of the garage at the end
closed_end : {S : Type 0} (closes : GarageValue → S → S → Type 0) → ((g : GarageValue) (a b : S) → closes g a b → b ≡ a) → (s : Option GarageValue) (x y : S) → Closes closes s x y → y ≡ x
closed_end closes closed None x y h = h
closed_end closes closed (Some g) x y h = closed g x y h

pub wrote_script : {S X Y : Type 0} {K : Type 0} (by : Taking S) (closes : GarageValue → S → S → Type 0) (kept : S → K) (text : S → Option (List ℕ)) (r : Result X Y) (lines : List (List ℕ)) (x y : S)
    → ((a b : S) → by.begins a b → b ≡ a) → ((a b : S) (told : LineTold) → by.takes a told b → (kept b ≡ kept a) × Appends (text a) (text b) (told_text told))
    → ((line : List ℕ) (had : Bool) (a b : S) → by.ends line had a b → b ≡ a) → ((g : GarageValue) (a b : S) → closes g a b → b ≡ a)
    → OnOk r (TakesScript by closes lines x y) → OnOk r (kept y ≡ kept x) × OnOk r (IsScriptAnswered lines (text x) (text y))
wrote_script by closes kept text (Err e) lines x y begun took ended closed h = (tt, tt)
wrote_script by closes kept text (Ok a) lines x y begun took ended closed h =
    let all = wrote_all by kept text lines None h.0 x h.1 begun took ended h.2 in
    let same : y ≡ h.1 = closed_end closes closed h.0 h.1 y h.3 in
    (subst (λ k. kept k ≡ kept x) (sym same) all.2, (all.0, h.0, all.1, subst (λ k. Appends (text x) (text k) (flat_map told_text all.0)) (sym same) all.3))

-- ---- what one who tells of refused lines came to

-- what there is of it
pub record Views (S V M : Type 0) : Type 0 where
  pub how : S → LineForm
  pub number : S → ℕ
  pub refused : S → Bool
  pub seats : S → ℕ
  pub refusal : S → Option Refusal
  pub wire : S → Option Wire
  pub errors : S → V
  pub writer : S → M

abbrev pub Stays : {S V M : Type 0} → Views S V M → S → S → Type 0
Stays v a b = (v.how b ≡ v.how a) × (v.wire b ≡ v.wire a) × (v.writer b ≡ v.writer a)

abbrev pub Begins : {S V M : Type 0} → Views S V M → S → S → Type 0
Begins v a b = Stays v a b × (v.errors b ≡ v.errors a) × (v.refused b ≡ v.refused a) × (v.seats b ≡ v.seats a) × (v.number b ≡ counted (v.number a + 1)) × (v.refusal b ≡ None)

abbrev pub Takes : {S V M : Type 0} → Views S V M → S → LineTold → S → Type 0
Takes v a told b = Stays v a b × (v.errors b ≡ v.errors a) × (v.refused b ≡ v.refused a) × (v.seats b ≡ seats_with told (v.seats a)) × (v.number b ≡ v.number a) × (v.refusal b ≡ refusal_told told)

abbrev pub Ends : {S V M N : Type 0} → Views S V M → (V → N) → (V → Option (List ℕ)) → List ℕ → Bool → S → S → Type 0
Ends v lent known line had a b = Stays v a b × (v.number b ≡ v.number a) × (v.seats b ≡ v.seats a) × (v.refused b ≡ refused_with (v.refusal a) (v.refused a)) × (lent (v.errors b) ≡ lent (v.errors a))
    × ((told : List ℕ) × TellsOf (v.how a) (v.number a) (v.seats a) line had (v.refusal a) told × Appends (known (v.errors a)) (known (v.errors b)) told)

-- the line of a seat that was not given, as it is written
pub no_seat_written : {X Y : Type 0} (r : Result X Y) (old new : Option (List ℕ)) (o : Option ℕ) (k n : ℕ) → o ≡ Some k
    → OnOk r (Appends old new (codes "no seat " ++ (decimal k ++ (codes "; seats given so far: " ++ (decimal n ++ codes "\n"))))) → OnOk r (Appends old new (no_seat_text o n ++ codes "\n"))
no_seat_written r old new o k n is h =
    let a = codes "no seat " in
    let b = codes "; seats given so far: " in
    let same : a ++ decimal k ++ b ++ decimal n ++ codes "\n" ≡ a ++ (decimal k ++ (b ++ (decimal n ++ codes "\n"))) =
    append_assoc (a ++ decimal k ++ b) (decimal n) (codes "\n") ∙ append_assoc (a ++ decimal k) b (decimal n ++ codes "\n") ∙ append_assoc a (decimal k) (b ++ (decimal n ++ codes "\n")) in
    subst (λ s. OnOk r (Appends old new (no_seat_text s n ++ codes "\n"))) (sym is) (subst (λ t. OnOk r (Appends old new t)) (sym same) h)

not_empty : (xs ys : List ℕ) (c : ℕ) → xs ++ c ∷ ys ≢ []
not_empty [] ys c = λ e. absurd cc
not_empty (x ∷ xs) ys c = λ e. absurd cc

grown_not_empty : (xs ys : List ℕ) → xs ≢ [] → xs ++ ys ≢ []
grown_not_empty [] ys some = λ e. absurd (some refl)
grown_not_empty (x ∷ xs) ys some = λ e. absurd cc

same_not_empty : (xs ys : List ℕ) → xs ≡ ys → ys ≢ [] → xs ≢ []
same_not_empty xs ys same some = λ e. some (sym same ∙ e)

-- what is told of a refused line is something
told_something : (how : LineForm) (n k : ℕ) (line : List ℕ) (had : Bool) (why : Option LineReason) (r : Refusal) → refused_text how n k line had why r ≢ []
told_something form.Answer n k line had why r = not_empty [] _ 108
told_something form.Reason n k line had why r =
    let number : decimal n ++ codes ": " ≢ [] = not_empty (decimal n) (32 ∷ []) 58 in
    let reason : decimal n ++ codes ": " ++ why_text why line had k r ≢ [] = grown_not_empty (decimal n ++ codes ": ") (why_text why line had k r) number in
    grown_not_empty (decimal n ++ codes ": " ++ why_text why line had k r) (codes "\n") reason

-- from this on, lines were refused just where something was told
abbrev pub IsToldFrom : List ℕ → Bool → Bool → Type 0
IsToldFrom told a b = ((told ≡ []) × (b ≡ a)) ⊎ ((told ≢ []) × (b ≡ true))

told_more : (how : LineForm) (n k : ℕ) (line : List ℕ) (had : Bool) (o : Option Refusal) (first rest : List ℕ) (a b d : Bool)
    → TellsOf how n k line had o first → b ≡ refused_with o a → IsToldFrom rest b d → IsToldFrom (first ++ rest) a d
told_more how n k line had None first rest a b d h is more =
    subst (λ t. IsToldFrom (t ++ rest) a d) (sym h) (subst (λ x. IsToldFrom rest x d) is more)
told_more how n k line had (Some r) first rest a b d h is more =
    inr (grown_not_empty first rest (same_not_empty first _ h.1 (told_something how n k line had h.0 r)), elim more [ inl same ↦ same.1 ∙ is | inr other ↦ other.1 ])

tells_from : (f f' : LineForm) (n n' k k' : ℕ) (lines : List (List ℕ)) (s t : Option GarageValue) (told : List ℕ) → f ≡ f' → n ≡ n' → k ≡ k' → TellsAll f n k lines s told t → TellsAll f' n' k' lines s told t
tells_from f f' n n' k k' lines s t told ef en ek h =
    subst (λ x. TellsAll x n' k' lines s told t) ef (subst (λ x. TellsAll f x k' lines s told t) en (subst (λ x. TellsAll f n x lines s told t) ek h))

tells_of_from : (f f' : LineForm) (n n' k k' : ℕ) (line : List ℕ) (had : Bool) (o o' : Option Refusal) (told : List ℕ) → f ≡ f' → n ≡ n' → k ≡ k' → o ≡ o' → TellsOf f n k line had o told → TellsOf f' n' k' line had o' told
tells_of_from f f' n n' k k' line had o o' told ef en ek eo h =
    subst (λ x. TellsOf x n' k' line had o' told) ef (subst (λ x. TellsOf f x k' line had o' told) en (subst (λ x. TellsOf f n x line had o' told) ek (subst (λ x. TellsOf f n k line had x told) eo h)))

-- what the lines came to
pub told_all : {S V M N : Type 0} (by : Taking S) (v : Views S V M) (lent : V → N) (known : V → Option (List ℕ)) (lines : List (List ℕ)) (s t : Option GarageValue) (x y : S)
    → ((a b : S) → by.begins a b → Begins v a b) → ((a b : S) (told : LineTold) → by.takes a told b → Takes v a told b)
    → ((line : List ℕ) (had : Bool) (a b : S) → by.ends line had a b → Ends v lent known line had a b)
    → TakesAll by lines s t x y → (told : List ℕ) × TellsAll (v.how x) (v.number x) (v.seats x) lines s told t × Appends (known (v.errors x)) (known (v.errors y)) told
    × IsToldFrom told (v.refused x) (v.refused y) × (lent (v.errors y) ≡ lent (v.errors x)) × (v.wire y ≡ v.wire x) × (v.writer y ≡ v.writer x)
unfolding TakesAll TellsAll
told_all by v lent known [] s t x y begun took ended h =
    ([], (refl, h.0), subst (λ k. Appends (known (v.errors x)) (known (v.errors k)) []) (sym h.1) (Appends-nil _), inl (refl, ap v.refused h.1), ap (λ k. lent (v.errors k)) h.1, ap v.wire h.1, ap v.writer h.1)
told_all by v lent known (line ∷ lines) s t x y begun took ended h =
    let rest = told_all by v lent known lines h.1 t h.2 y begun took ended h.4 in
    elim h.3 [
      | inl silent ↦
          let b = begun x h.2 silent.3 in
          let all : TellsAll (v.how x) (counted (v.number x + 1)) (v.seats x) lines h.1 rest.0 t = tells_from _ _ _ _ _ _ lines h.1 t rest.0 b.0.0 b.4 b.3 rest.1 in (
            rest.0,
            (Silent, h.1, [], rest.0, refl, inl (silent.0, refl, silent.2), refl, all),
            subst (λ k. Appends (known k) (known (v.errors y)) rest.0) b.1 rest.2,
            subst (λ k. IsToldFrom rest.0 k (v.refused y)) b.2 rest.3,
            rest.4 ∙ ap lent b.1,
            rest.5 ∙ b.0.1,
            rest.6 ∙ b.0.2,
          )
      | inr spoken ↦
          let w = spoken.2 in
          let b = begun x w.0 w.2 in
          let e = took w.0 w.1 h.0 w.3 in
          let z = ended line (is_some s) w.1 h.2 w.4 in
          let first = z.5.0 in
          let how : v.how w.1 ≡ v.how x = e.0.0 ∙ b.0.0 in
          let number : v.number w.1 ≡ counted (v.number x + 1) = e.4 ∙ b.4 in
          let seats : v.seats w.1 ≡ seats_with h.0 (v.seats x) = e.3 ∙ ap (seats_with h.0) b.3 in
          let errors : v.errors w.1 ≡ v.errors x = e.1 ∙ b.1 in
          let refused : v.refused h.2 ≡ refused_with (refusal_told h.0) (v.refused x) =
          z.3 ∙ ap (λ o. refused_with o (v.refused w.1)) e.5 ∙ ap (refused_with (refusal_told h.0)) (e.2 ∙ b.2) in
          let one : TellsOf (v.how x) (counted (v.number x + 1)) (seats_with h.0 (v.seats x)) line (is_some s) (refusal_told h.0) first =
          tells_of_from _ _ _ _ _ _ line (is_some s) _ _ first how number seats e.5 z.5.1 in
          let all : TellsAll (v.how x) (counted (v.number x + 1)) (seats_with h.0 (v.seats x)) lines h.1 rest.0 t =
          tells_from _ _ _ _ _ _ lines h.1 t rest.0 (z.0.0 ∙ how) (z.1 ∙ number) (z.2 ∙ seats) rest.1 in (
            first ++ rest.0,
            (h.0, h.1, first, rest.0, refl, inr (spoken.0, spoken.1), one, all),
            Appends-trans (known (v.errors x)) (known (v.errors h.2)) (known (v.errors y)) first rest.0 (subst (λ k. Appends (known k) (known (v.errors h.2)) first) errors z.5.2) rest.2,
            told_more _ _ _ line (is_some s) (refusal_told h.0) first rest.0 _ _ _ one refused rest.3,
            rest.4 ∙ z.4 ∙ ap lent errors,
            rest.5 ∙ z.0.1 ∙ e.0.1 ∙ b.0.1,
            rest.6 ∙ z.0.2 ∙ e.0.2 ∙ b.0.2,
          )
    ]

nothing_asked : (w : Option Wire) → asked_log w None ≡ []
nothing_asked None = refl
nothing_asked (Some w) = refl

abbrev pub Closed : {S V M N : Type 0} → Views S V M → (M → N) → (M → Option (List ℕ)) → Option GarageValue → S → S → Type 0
Closed v name text s a b = (v.refused b ≡ v.refused a) × (v.errors b ≡ v.errors a) × (name (v.writer b) ≡ name (v.writer a)) × Appends (text (v.writer a)) (text (v.writer b)) (asked_log (v.wire a) s)

-- at the end the wire is written, where there is a garage
at_end : {S V M N : Type 0} (closes : GarageValue → S → S → Type 0) (v : Views S V M) (name : M → N) (text : M → Option (List ℕ))
    → ((g : GarageValue) (a b : S) → closes g a b → Closed v name text (Some g) a b) → (s : Option GarageValue) (x y : S) → Closes closes s x y → Closed v name text s x y
at_end closes v name text closed None x y h = (
  ap v.refused h,
  ap v.errors h,
  ap (λ k. name (v.writer k)) h,
  subst (λ k. Appends (text (v.writer x)) (text (v.writer k)) (asked_log (v.wire x) None)) (sym h) (subst (λ t. Appends (text (v.writer x)) (text (v.writer x)) t) (sym (nothing_asked (v.wire x))) (Appends-nil _)),
)
at_end closes v name text closed (Some g) x y h = closed g x y h

told_if : (told : List ℕ) (a b : Bool) → a ≡ false → IsToldFrom told a b → IsToldIf b told
told_if told a b began h = elim h [ inl same ↦ inl (same.0, same.1 ∙ began) | inr more ↦ inr more ]

-- what a whole script came to, where the wire is written of the garage that it leads to
pub carried : {S V M N P X Y : Type 0} (by : Taking S) (closes : GarageValue → S → S → Type 0) (v : Views S V M) (lent : V → P) (known : V → Option (List ℕ)) (name : M → N) (text : M → Option (List ℕ))
    (r : Result X Y) (lines : List (List ℕ)) (x y : S) → (v.number x ≡ 0) × (v.refused x ≡ false) × (v.seats x ≡ 0)
    → ((a b : S) → by.begins a b → Begins v a b) → ((a b : S) (told : LineTold) → by.takes a told b → Takes v a told b)
    → ((line : List ℕ) (had : Bool) (a b : S) → by.ends line had a b → Ends v lent known line had a b) → ((g : GarageValue) (a b : S) → closes g a b → Closed v name text (Some g) a b)
    → OnOk r (TakesScript by closes lines x y) → OnOk r ((lent (v.errors y) ≡ lent (v.errors x)) × (name (v.writer y) ≡ name (v.writer x)))
    × OnOk r (IsCarriedOut (v.how x) lines (λ told s. IsToldIf (v.refused y) told × Appends (known (v.errors x)) (known (v.errors y)) told × Appends (text (v.writer x)) (text (v.writer y)) (asked_log (v.wire x) s)))
carried by closes v lent known name text (Err e) lines x y began begun took ended closed h = (tt, tt)
carried by closes v lent known name text (Ok a) lines x y began begun took ended closed h =
    let all = told_all by v lent known lines None h.0 x h.1 begun took ended h.2 in
    let end = at_end closes v name text closed h.0 h.1 y h.3 in
    let refused : IsToldFrom all.0 (v.refused x) (v.refused y) = subst (λ k. IsToldFrom all.0 (v.refused x) k) (sym end.0) all.3 in
    let wrote : Appends (text (v.writer x)) (text (v.writer y)) (asked_log (v.wire x) h.0) =
    subst (λ k. Appends (text k) (text (v.writer y)) (asked_log (v.wire x) h.0)) all.6 (subst (λ k. Appends (text (v.writer h.1)) (text (v.writer y)) (asked_log k h.0)) all.5 end.3) in (
      (ap lent end.1 ∙ all.4, end.2 ∙ ap name all.6),
      (
        all.0,
        h.0,
        tells_from _ _ _ _ _ _ lines None h.0 all.0 refl began.0 began.2 all.1,
        (told_if all.0 _ _ began.1 refused, subst (λ k. Appends (known (v.errors x)) (known k) all.0) (sym end.1) all.2, wrote),
      ),
    )

-- what was told and written is what holds at the end
pub carried_kept : (how : LineForm) (lines : List (List ℕ)) (wire : Option Wire) (P Q : List ℕ → Type 0) (a b c d e f : Option (List ℕ)) → ((told : List ℕ) → P told → Q told) → Keeps b c → Keeps e f
    → IsCarriedOut how lines (λ told s. P told × Appends a b told × Appends d e (asked_log wire s)) → IsCarriedOut how lines (λ told s. Q told × Appends a c told × Appends d f (asked_log wire s))
carried_kept how lines wire P Q a b c d e f shows errors writer h =
    (h.0, h.1, h.2, (shows h.0 h.3.0, Appends-kept a b c _ h.3.1 errors, Appends-kept d e f _ h.3.2 writer))

pub none_told : (refused : Bool) (told : List ℕ) → refused ≡ false → IsToldIf refused told → told ≡ []
none_told refused told is h = elim h [ inl none ↦ none.0 | inr some ↦ absurd (true≢false (sym some.1 ∙ is)) ]

pub some_told : (refused : Bool) (told : List ℕ) → refused ≡ true → IsToldIf refused told → told ≢ []
some_told refused told is h = elim h [ inl none ↦ absurd (true≢false (sym is ∙ none.1)) | inr some ↦ some.0 ]
