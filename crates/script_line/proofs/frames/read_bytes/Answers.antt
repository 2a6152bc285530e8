use Rattle.std.proofs.Common.{◌≡◌, ◌≤◌, ◌<◌, ◌-◌, ◌+◌, ℕ, List, [], ◌∷◌, Some, None, get_or, take, drop, length, arith, subst, refl, rules, ◌∙◌}
use Rattle.std.proofs.lemmas.List.{length-set, nil_from_length}
use Rattle.script_line.specs.Bytes.{SpellsByte}
use Rattle.script_line.proofs.ByteLemmas.{SoFar, byte_dropped, byte_kept, bytes_read, front_one, no_byte, none_read, shorter}
use Rattle.script_line.proofs.frames.read_bytes.Goals as goal

pub loop-rest-init : goal.loop-rest-init
loop-rest-init c = record { count = omega arith; room = refl; apart = c.requires; kept = none_read c.args.words.now _ }

pub loop-rest-smaller-then-count-lt-TOO_MANY : goal.loop-rest-smaller-then-count-lt-TOO_MANY
loop-rest-smaller-then-count-lt-TOO_MANY c = shorter c.loop-rest.rest.now c.in_ok-byte.behind.now c.in-32.len_at_least c.in_ok-byte.ensures.shorter

pub loop-rest-smaller-else-count-lt-TOO_MANY : goal.loop-rest-smaller-else-count-lt-TOO_MANY
loop-rest-smaller-else-count-lt-TOO_MANY c = shorter c.loop-rest.rest.now c.in_ok-byte.behind.now c.in-32.len_at_least c.in_ok-byte.ensures.shorter

pub loop-rest-smaller : goal.loop-rest-smaller
loop-rest-smaller c = shorter c.loop-rest.rest.now c.in_ok-byte.behind.now c.in-32.len_at_least c.in_ok-byte.ensures.shorter

pub loop-rest-preserved-then-count-lt-TOO_MANY : goal.loop-rest-preserved-then-count-lt-TOO_MANY
loop-rest-preserved-then-count-lt-TOO_MANY c =
    let rest = c.loop-rest.rest.now in
    let text = take (length rest - 1) (drop 1 rest) in
    let behind = c.in_ok-byte.behind.now in
    let first : get_or rest 0 0 ≡ 32 = search rules in
    let spelled : SpellsByte text (Some (Some c.in-Some.byte, behind)) = rw c.in-Some.is at c.in_ok-byte.ensures.spelled in
    record {
      count = omega arith;
      room = length-set c.loop-rest.bytes c.loop-rest.count c.in-Some.byte ∙ c.loop-rest.invariant.room;
      apart = spelled.0;
      kept = byte_kept c.args.words.now text behind c.loop-rest.bytes c.loop-rest.count c.in-Some.byte c.loop-rest.invariant.room (omega arith) spelled
          (subst (λ (r : List ℕ). SoFar c.args.words.now r c.loop-rest.bytes c.loop-rest.count) (front_one rest c.in-32.len_at_least first) c.loop-rest.invariant.kept);
    }

pub loop-rest-preserved-else-count-lt-TOO_MANY : goal.loop-rest-preserved-else-count-lt-TOO_MANY
loop-rest-preserved-else-count-lt-TOO_MANY c =
    let rest = c.loop-rest.rest.now in
    let text = take (length rest - 1) (drop 1 rest) in
    let behind = c.in_ok-byte.behind.now in
    let first : get_or rest 0 0 ≡ 32 = search rules in
    let spelled : SpellsByte text (Some (Some c.in-Some.byte, behind)) = rw c.in-Some.is at c.in_ok-byte.ensures.spelled in
    record {
      count = c.loop-rest.invariant.count;
      room = c.loop-rest.invariant.room;
      apart = spelled.0;
      kept = byte_dropped c.args.words.now text behind c.loop-rest.bytes c.loop-rest.count c.in-Some.byte (omega arith) spelled
          (subst (λ (r : List ℕ). SoFar c.args.words.now r c.loop-rest.bytes c.loop-rest.count) (front_one rest c.in-32.len_at_least first) c.loop-rest.invariant.kept);
    }

pub loop-rest-preserved : goal.loop-rest-preserved
loop-rest-preserved c =
    let rest = c.loop-rest.rest.now in
    let text = take (length rest - 1) (drop 1 rest) in
    let behind = c.in_ok-byte.behind.now in
    let first : get_or rest 0 0 ≡ 32 = search rules in
    let spelled : SpellsByte text (Some (None, behind)) = rw c.in_default-byte.is at c.in_ok-byte.ensures.spelled in
    record {
      count = c.loop-rest.invariant.count;
      room = c.loop-rest.invariant.room;
      apart = spelled.0;
      kept = no_byte c.args.words.now text behind c.loop-rest.bytes c.loop-rest.count spelled
          (subst (λ (r : List ℕ). SoFar c.args.words.now r c.loop-rest.bytes c.loop-rest.count) (front_one rest c.in-32.len_at_least first) c.loop-rest.invariant.kept);
    }

pub returns-in_default-clause-kept : goal.returns-in_default-clause-kept
returns-in_default-clause-kept c =
    let end : c.loop-rest.rest.now ≡ [] = nil_from_length c.loop-rest.rest.now (omega (arith, c.in_default.len_below)) in
    bytes_read c.args.words.now c.loop-rest.rest.now c.loop-rest.bytes c.loop-rest.count end c.loop-rest.invariant.kept
