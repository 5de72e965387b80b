use Rattle.sym_base.specs.Trees.{script_tree}
use Rattle.sym_parse.proofs.Printout.PrintedBack.{parsed_again, printed_again}
use Rattle.sym_parse.proofs.printer.script.print.Goals as goal

pub returns-clause-again : goal.returns-clause-again
returns-clause-again c = printed_again (λ v. v.items) (script_tree c.args.script.now) c.print_script.result c.requires c.print_script.ensures

pub returns-clause-parses : goal.returns-clause-parses
returns-clause-parses c = parsed_again (λ v. v.items) (script_tree c.args.script.now) c.print_script.result (printed_again (λ v. v.items) (script_tree c.args.script.now) c.print_script.result c.requires c.print_script.ensures)
