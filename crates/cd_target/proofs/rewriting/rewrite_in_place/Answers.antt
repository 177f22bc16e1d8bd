use Rattle.cd_target.proofs.Identifiers.{leaves}
use Rattle.cd_target.proofs.rewriting.rewrite_in_place.Goals as goal
use Rattle.cd_value.specs.Identifier.{Fields}

pub invariant_of-id : goal.invariant_of-id
invariant_of-id c =
    let id : Fields = record {
      host = c.id.inside.host;
      plugin = c.id.inside.plugin;
      plugin_instance = c.id.inside.plugin_instance;
      type_name = c.id.inside.type_name;
      type_instance = c.id.inside.type_instance;
    } in
    (leaves c.args.target.now c.args.id.now id c.put.new.field c.put-2.new.field c.put-3.new.field c.put-4.new.field
    c.in_ok-host.host c.in_ok-plugin.plugin c.in_ok-plugin_instance.plugin_instance c.in_ok-type_instance.type_instance
    c.id.view_is c.id.invariant
    c.in_ok-host.ensures c.in_ok-plugin.ensures c.in_ok-plugin_instance.ensures c.in_ok-type_instance.ensures
    c.put.ensures c.put-2.ensures c.put-3.ensures c.put-4.ensures).identifier

pub returns-clause-identifier : goal.returns-clause-identifier
returns-clause-identifier c =
    let id : Fields = record {
      host = c.id.inside.host;
      plugin = c.id.inside.plugin;
      plugin_instance = c.id.inside.plugin_instance;
      type_name = c.id.inside.type_name;
      type_instance = c.id.inside.type_instance;
    } in
    (leaves c.args.target.now c.args.id.now id c.put.new.field c.put-2.new.field c.put-3.new.field c.put-4.new.field
    c.in_ok-host.host c.in_ok-plugin.plugin c.in_ok-plugin_instance.plugin_instance c.in_ok-type_instance.type_instance
    c.id.view_is c.id.invariant
    c.in_ok-host.ensures c.in_ok-plugin.ensures c.in_ok-plugin_instance.ensures c.in_ok-type_instance.ensures
    c.put.ensures c.put-2.ensures c.put-3.ensures c.put-4.ensures).identifier
