use Rattle.std.proofs.Common.{sym, true, ◌≡◌, [], ◌++◌, ◌∙◌, ap, rules, chars}
use Rattle.std.proofs.lemmas.Str.{IsUtf8-past_char}
use Rattle.std.proofs.Output.{has_written_append, has_written_of_eq}
use Rattle.std.specs.List.{flat_map, list_all}
use Rattle.std.specs.Str.Iter.{chars_rest}
use Rattle.safe_text.specs.Seen.{is_plain, seen, seen_as}
use Rattle.safe_text.proofs.NothingHidden.{shown_past_char, shown_at_end, shown_as_it_is}
use Rattle.safe_text.proofs.seen.SeenDisplay.fmt.Goals as goal

pub loop-character-init : goal.loop-character-init
unfolding seen
loop-character-init g c =
    let same : chars_rest c.into_iter-character-iterator.result ≡ c.args.self.now.text.now =
    ap chars_rest c.into_iter-character-iterator.ensures.into_iter_gives ∙ c.chars-character-items.ensures.rest in
    (search rules, λ plain. ([], search rules, ap (λ t. flat_map (seen_as c.args.self.now.form) (chars t)) same))

pub loop-character-preserved : goal.loop-character-preserved
loop-character-preserved g c =
    let held = c.loop-character.invariant in
    let form = c.args.self.now.form in
    let parts = c.in-Some.ensures.steps.0 in (
      IsUtf8-past_char _ _ c.in-Some.character held.0 parts,
      λ plain.
          let now = held.1 plain in (
            now.0 ++ seen_as form c.in-Some.character,
            has_written_append _ _ _ _ _ _ now.1 (search rules),
            shown_past_char form now.0 _ _ c.in-Some.character held.0 parts ∙ now.2,
          ),
    )

pub returns-clause-writes : goal.returns-clause-writes
returns-clause-writes g c = λ plain ok.
    let now = c.loop-character.invariant.1 plain in
    has_written_of_eq _ _ _ _ _ (shown_at_end c.args.self.now.form now.0 _ c.in-None.ensures.steps.0.0 ∙ now.2) now.1

pub returns-then-are_plain-clause-writes : goal.returns-then-are_plain-clause-writes
returns-then-are_plain-clause-writes g c = λ plain ok.
    let all : list_all (is_plain c.args.self.now.form) c.args.self.now.text.now ≡ true = search rules in
    has_written_of_eq _ _ _ _ _ (sym (shown_as_it_is c.args.self.now.form c.args.self.now.text.now all)) (c.write.ensures.writes plain ok)
