-- The options of the program, as one application of clap: of the options it has just these, and none for help or the
-- version.
use Rattle.clap.specs.Words.{App, Rule, new_app, new_rule, with_rule}
use Rattle.clap.specs.declared.builder.action.ArgAction.TheVariants.{SetTrue}
use Rattle.clap.specs.declared.builder.value_parser.ValueParser.TheVariants as parser
use Rattle.std.specs.Prelude.{Some, codes, pos, true}

-- -C file
abbrev pub file_rule : Rule
file_rule = record (new_rule (codes "file")) { short = Some 67 }

-- -t
abbrev pub test_rule : Rule
test_rule = record (new_rule (codes "test")) { short = Some 116; action = Some SetTrue }

-- -T
abbrev pub readers_rule : Rule
readers_rule = record (new_rule (codes "readers")) { short = Some 84; action = Some SetTrue }

-- -f
abbrev pub front_rule : Rule
front_rule = record (new_rule (codes "front")) { short = Some 102; action = Some SetTrue }

-- --lines
abbrev pub lines_rule : Rule
lines_rule = record (new_rule (codes "lines")) { long = Some (codes "lines"); action = Some SetTrue }

-- --load N, where N is a number of 32 bits
abbrev pub load_rule : Rule
load_rule = record (new_rule (codes "load")) {
  long = Some (codes "load");
  parser = Some (parser.Signed (pos 0) (pos 4294967295));
}

-- the name alone
abbrev pub bare : App
bare = record (new_app (codes "collectd")) {
  top = record ((new_app (codes "collectd")).top) { disable_help_flag = true; disable_version_flag = true };
}

abbrev pub with_flags : App → App
with_flags app = with_rule (with_rule (with_rule (with_rule app test_rule) readers_rule) front_rule) lines_rule

-- the program
abbrev pub collectd : App
collectd = with_rule (with_flags (with_rule bare file_rule)) load_rule
