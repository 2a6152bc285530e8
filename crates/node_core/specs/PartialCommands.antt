-- How what is half joined of commanded addresses is kept: in place, from one source; or by source, for those that began one.
use Rattle.std.specs.Prelude.{ℕ, List, map, Option, Some, None, ◌==◌, if◌then◌else◌}
use Rattle.std.specs.List.{range_with_len}
use Rattle.std.specs.Ordering.{nat_cmp}
use Rattle.std.specs.BTreeMap.{get}
use Rattle.can_frame.specs.declared.address.TheConstants.{HOLDABLE_ADDRESSES}
use Rattle.node_core.specs.declared.commanding.PartialCommand.{PartialCommand}
use Rattle.node_core.specs.declared.commanding.PartialCommand.TheVariants.{Nothing}
use Rattle.node_core.specs.declared.partial_commands.Partials.{Partials}
use Rattle.node_core.specs.declared.partial_commands.Partials.TheVariants.{One, Many}

-- what is not kept is nothing
abbrev pub partial_or_nothing : Option PartialCommand → PartialCommand
partial_or_nothing None = Nothing
partial_or_nothing (Some partial) = partial

-- what is half joined from a source; what stands in place is from its source alone
abbrev pub partial_at : Partials → ℕ → PartialCommand
partial_at (One only partial) source = if only == source then partial else Nothing
partial_at (Many partials) source = partial_or_nothing (get nat_cmp partials source)

-- what is half joined from each source, 0 to 253
unfoldable pub partials_of : Partials → List PartialCommand
partials_of partials = map (partial_at partials) (range_with_len 0 HOLDABLE_ADDRESSES)
