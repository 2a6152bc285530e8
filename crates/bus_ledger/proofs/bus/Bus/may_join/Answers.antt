use Rattle.std.proofs.Common.{arith}
use Rattle.bus_ledger.proofs.Names.{refused_name, refused_many, not_refused}
use Rattle.bus_ledger.proofs.Offering.{in_order_of}
use Rattle.bus_ledger.proofs.bus.Bus.may_join.Goals as goal

pub is_name_among-requires : goal.is_name_among-requires
is_name_among-requires c = in_order_of c.self.inside _ _ c.self.invariant c.as_slice.ensures.value c.as_slice-2.ensures.value

pub returns-then-is_name_among-clause-refusal : goal.returns-then-is_name_among-clause-refusal
returns-then-is_name_among-clause-refusal c =
    refused_name c.self.inside c.args.self.now c.args.name c.as_slice.result.now c.as_slice-2.result.now c.self.view_is c.self.invariant c.as_slice.ensures.value c.as_slice-2.ensures.value c.if-is_name_among.ensures

pub returns-then-len-clause-refusal : goal.returns-then-len-clause-refusal
returns-then-len-clause-refusal c =
    refused_many c.self.inside c.args.self.now c.args.name c.as_slice.result.now c.as_slice-2.result.now c.self.view_is c.self.invariant c.as_slice.ensures.value c.as_slice-2.ensures.value c.if-is_name_among.ensures (omega (arith, c.len.ensures, c.as_slice-2.ensures.len))

pub returns-clause-refusal : goal.returns-clause-refusal
returns-clause-refusal c =
    not_refused c.self.inside c.args.self.now c.args.name c.as_slice.result.now c.as_slice-2.result.now c.self.view_is c.self.invariant c.as_slice.ensures.value c.as_slice-2.ensures.value c.if-is_name_among.ensures (omega (arith, c.len.ensures, c.as_slice-2.ensures.len))
