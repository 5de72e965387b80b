use Rattle.std.proofs.Common.{◌∙◌, sym, map}
use Rattle.std.specs.String.{string_bytes}
use Rattle.clap.specs.Words.{app_of}
use Rattle.sym_command.proofs.Matching.{free-simple, taken, refused}
use Rattle.sym_command.proofs.words.find_matches.Goals as goal

pub returns-in-Ok : goal.returns-in-Ok
returns-in-Ok c =
    let app = app_of c.args.command in
    let rows = c.in-Ok.ensures.matches (free-simple app c.requires) in
    sym (taken app (map string_bytes c.args.words.now) _ (c.in-Ok.ensures.kinds c.requires) rows.0)

pub returns : goal.returns
returns c =
    sym (refused (app_of c.args.command) (map string_bytes c.args.words.now) c.in-Err.error (c.in-Err.ensures.kinds c.requires)
    (λ m. c.in_default.not-OutOfMemory (c.kind.ensures ∙ m)))
