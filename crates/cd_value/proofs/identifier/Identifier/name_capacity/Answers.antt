use Rattle.cd_value.proofs.Readable.{field_lengths}
use Rattle.cd_value.proofs.identifier.Identifier.name_capacity.Goals as goal
use Rattle.cd_value.specs.Identifier.{Fields}
use Rattle.cd_value.specs.declared.identifier.Identifier.TheInside.{Inside}
use Rattle.std.proofs.Common.{arith}

abbrev fields : Inside → Fields
fields id = record { host = id.host; plugin = id.plugin; plugin_instance = id.plugin_instance; type_name = id.type_name; type_instance = id.type_instance }

pub overflow_add-plugin : goal.overflow_add-plugin
overflow_add-plugin c = omega (arith, field_lengths (fields c.self.inside) c.self.invariant)

pub overflow_add-type_part : goal.overflow_add-type_part
overflow_add-type_part c = omega (arith, field_lengths (fields c.self.inside) c.self.invariant)

pub overflow_add-result : goal.overflow_add-result
overflow_add-result c = omega (arith, field_lengths (fields c.self.inside) c.self.invariant)

pub overflow_add-result-2 : goal.overflow_add-result-2
overflow_add-result-2 c = omega (arith, field_lengths (fields c.self.inside) c.self.invariant)

pub overflow_add-result-3 : goal.overflow_add-result-3
overflow_add-result-3 c = omega (arith, field_lengths (fields c.self.inside) c.self.invariant)
