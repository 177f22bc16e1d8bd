use Rattle.cd_value.proofs.Names.{fields_of-name_of, read_again, read_identifier-name_of}
use Rattle.cd_value.proofs.Readable.{whole}
use Rattle.cd_value.proofs.identifier.Identifier.name.Goals as goal
use Rattle.cd_value.specs.Identifier.{Fields, fields_of, is_identifier, name_of, read_identifier}
use Rattle.std.proofs.Common.{ap, rules, subst, true, ◌∙◌, ◌≡◌}

pub returns-clause-shows : goal.returns-clause-shows
returns-clause-shows c =
    let value : c.push_instance-2.new.name ≡ name_of c.args.self.now = search rules in
    let own : is_identifier c.args.self.now ≡ true = subst (λ (id : Fields). is_identifier id ≡ true) c.self.view_is c.self.invariant in
    ap fields_of value ∙ fields_of-name_of c.args.self.now (whole c.args.self.now own)

pub returns-clause-reads : goal.returns-clause-reads
returns-clause-reads c =
    let value : c.push_instance-2.new.name ≡ name_of c.args.self.now = search rules in
    let own : is_identifier c.args.self.now ≡ true = subst (λ (id : Fields). is_identifier id ≡ true) c.self.view_is c.self.invariant in
    ap read_identifier value ∙ read_identifier-name_of c.args.self.now own

pub returns-clause-again : goal.returns-clause-again
returns-clause-again c = λ none.
    let value : c.push_instance-2.new.name ≡ name_of c.args.self.now = search rules in
    let own : is_identifier c.args.self.now ≡ true = subst (λ (id : Fields). is_identifier id ≡ true) c.self.view_is c.self.invariant in
    ap read_identifier value ∙ read_again c.args.self.now own none
