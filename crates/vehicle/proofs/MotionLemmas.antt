-- What a field says has room in its bits.
use Rattle.std.proofs.Common.{ℕ, ◌≤◌, ◌<◌, ◌+◌, ◌-◌, ◌*◌, ◌/◌, ◌%◌, ◌^◌, List, [], ◌∷◌, Option, Some, None, subst, sym, length, get_or, arith, lit<}
use Rattle.std.proofs.Math.Nat.{pow-le-pow_right, mul-le-mul_left, mul-div-le, le-div_iff_mul-le}
use Rattle.std.proofs.lemmas.Nat.{pow_pos}
use Rattle.std.specs.List.{All}
use Rattle.std.proofs.lemmas.List.Elements.{All-nil, All-cons}
use Rattle.toml.specs.Data.{Data, Items, no_items, item}
use Rattle.vehicle.specs.Fields.{HoldsValue, HoldsValuesAt}
use Rattle.vehicle.specs.Holding.{EachHolds}
use Rattle.vehicle.specs.Moving.{swing}

pub counter_fits : (size least most count : ℕ) → least ≤ most → most ≤ 2 ^ size - 1 → least + count % (most - least + 1) < 2 ^ size
counter_fits size least most count l m = omega (arith, pow_pos size)

pub toggle_fits : (size count : ℕ) → 1 ≤ size → count % 2 < 2 ^ size
toggle_fits size count l = let two : 2 ^ 1 ≤ 2 ^ size = pow-le-pow_right (lit< tt) l in omega arith

swing_most : (n count : ℕ) → 1 ≤ n → swing n count ≤ n
swing_most n count h = omega arith

pub ramp_fits : (size least most step count : ℕ) → 1 ≤ step → least + step ≤ most → most ≤ 2 ^ size - 1 → least + step * swing ((most - least) / step) count < 2 ^ size
ramp_fits size least most step count s l m =
    let n = (most - least) / step in
    let some : 1 ≤ n = (le-div_iff_mul-le {k = step} {x = 1} {y = most - least} s).1 (omega arith) in
    let far : step * swing n count ≤ step * n = mul-le-mul_left step (swing_most n count some) in
    let all : step * n ≤ most - least = mul-div-le (most - least) step in
    omega (arith, pow_pos size)

each_most : (greatest : ℕ) (ds : Items) (list : List ℕ) → EachHolds (HoldsValue greatest) ds list → All (λ n. n ≤ greatest) list
each_most greatest no_items [] h = All-nil (λ n. n ≤ greatest)
each_most greatest no_items (n ∷ list) h = absurd h
each_most greatest (item d ds) [] h = absurd h
each_most greatest (item d ds) (n ∷ list) h = All-cons (λ n. n ≤ greatest) n list h.0.1 (each_most greatest ds list h.1)

pub values_most : (greatest : ℕ) (o : Option Data) (list : List ℕ) → HoldsValuesAt greatest o list → All (λ n. n ≤ greatest) list
values_most greatest None list h = subst (All (λ n. n ≤ greatest)) (sym h) (All-nil (λ n. n ≤ greatest))
values_most greatest (Some d) list (ds, e, h) = each_most greatest ds list h

pub values_fit : (size count : ℕ) (list : List ℕ) → 1 ≤ length list → All (λ n. n ≤ 2 ^ size - 1) list → get_or list (count % length list) 0 < 2 ^ size
values_fit size count list s all =
    let here : get_or list (count % length list) 0 ≤ 2 ^ size - 1 = all (count % length list) 0 (omega arith) in omega (arith, pow_pos size)
