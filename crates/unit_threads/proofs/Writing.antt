-- Writes one after the other.
use Rattle.std.proofs.Common.{◌≡◌, ℕ, suc, ◌+◌, ◌<◌, Bool, List, [], ◌∷◌, ◌++◌, Option, Some, None, IfSome, IsOk, OnOk, Result, Ok, Err, length, take, get_or, arith, sym, ap, subst, ◌∙◌, append_assoc}
use Rattle.std.proofs.lemmas.List.{append-nil, length-take-le, take_all, take_more}
use Rattle.std.proofs.KnownBytes.{Appends-nil, Appends-trans}
use Rattle.std.specs.Io.KnownBytes.{Appends}
use Rattle.journal.specs.Journal.{GarageValue}
use Rattle.garage.specs.Opening.{new_garage}
use Rattle.report.specs.Text.{report_at}
use Rattle.vehicle.specs.declared.Vehicle.{Vehicle}
use Rattle.unit_threads.specs.Opened.{settings_wanted}
use Rattle.unit_threads.specs.Written.{HaveRun, IsRunTold, IsSpelled, unit_end_text, ends_text, reports_text, run_text}
use Rattle.unit_threads.specs.declared.ended.Ended.{Ended}

-- what holds where it was not refused
pub of_ok : {X E : Type 0} {P : Type 0} (r : Result X E) → IsOk r → OnOk r P → P
of_ok (Ok x) ok h = h
of_ok (Err e) ok h = absurd cc

pub nothing_yet : (a : Option (List ℕ)) → Appends a a []
nothing_yet a = Appends-nil a

ends_last : (g : GarageValue) (n : ℕ) (es : List Ended) (e : Ended) → ends_text g n (es ++ e ∷ []) ≡ ends_text g n es ++ unit_end_text g (n + length es) e
ends_last g n [] e = ap (λ k. unit_end_text g k e ++ []) (omega arith) ∙ append-nil _
ends_last g n (x ∷ es) e =
    let there : suc n + length es ≡ n + length (x ∷ es) = omega arith in
    ap (λ l. unit_end_text g n x ++ l) (ends_last g (suc n) es e ∙ ap (λ k. ends_text g (suc n) es ++ unit_end_text g k e) there)
    ∙ sym (append_assoc (unit_end_text g n x) (ends_text g (suc n) es) (unit_end_text g (n + length (x ∷ es)) e))

-- a line more
pub end_more : (g : GarageValue) (a b c : Option (List ℕ)) (es : List Ended) (i : ℕ) (d : Ended) → i < length es
    → Appends a b (ends_text g 0 (take i es)) → Appends b c (unit_end_text g i (get_or es i d)) → Appends a c (ends_text g 0 (take (i + 1) es))
end_more g a b c es i d l h k =
    let e = get_or es i d in
    let place : 0 + length (take i es) ≡ i = omega (arith, length-take-le i es (omega (arith, l))) in
    let all : ends_text g 0 (take i es ++ e ∷ []) ≡ ends_text g 0 (take i es) ++ unit_end_text g i e =
    ends_last g 0 (take i es) e ∙ ap (λ p. ends_text g 0 (take i es) ++ unit_end_text g p e) place in
    subst (λ t. Appends a c t) (sym (ap (λ ls. ends_text g 0 ls) (take_more es i d l) ∙ all)) (Appends-trans a b c (ends_text g 0 (take i es)) (unit_end_text g i e) h k)

pub all_ends : (g : GarageValue) (a c : Option (List ℕ)) (es : List Ended) (n : ℕ) → n ≡ length es → Appends a c (ends_text g 0 (take n es)) → Appends a c (ends_text g 0 es)
all_ends g a c es n z h = rw (take_all n es (omega (arith, z))) at h

-- a report more
pub report_more : (g : GarageValue) (a b c : Option (List ℕ)) (n : ℕ) → Appends a b (reports_text g n) → Appends b c (report_at g n) → Appends a c (reports_text g (n + 1))
report_more g a b c n h k =
    let next : suc n ≡ n + 1 = omega arith in
    subst (λ m. Appends a c (reports_text g m)) next (Appends-trans a b c _ _ h k)

-- so a run was told
pub run_told : (turns : ℕ) (v : Vehicle) (report : Bool) (g : GarageValue) (ended : List Ended) (old new : Option (List ℕ)) → HaveRun turns (length v.units.items) (new_garage (settings_wanted v.station v.second)) g ended → Appends old new (run_text g ended report)
    → IsRunTold turns v report old new
run_told turns v report g ended old new ran written = record { garage = g; ended = ended; ran = ran; written = written }

-- of the vehicle that the input spells
pub spelled_told : (o : Option (List ℕ)) (v : Vehicle) (T : Vehicle → Type 0) → IfSome o (λ input. IsSpelled input v) → T v → IfSome o (λ input. (w : Vehicle) × IsSpelled input w × T w)
spelled_told None v T h told = tt
spelled_told (Some input) v T h told = (v, h, told)
