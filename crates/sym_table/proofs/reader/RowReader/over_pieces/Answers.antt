use Rattle.std.proofs.Common.{◌≡◌, ◌∙◌, ◌+◌, List, ℕ, Some, ap, ap₂, length, map, sym}
use Rattle.std.specs.List.{concat}
use Rattle.csv.specs.Reading.{default_config, records_from, strip_bom}
use Rattle.csv.specs.declared.parser.State.TheVariants as st
use Rattle.sym_rows.specs.Pieces.{pieces_left}
use Rattle.sym_rows.proofs.Parts.{pieces_piece, pieces_rows, unmarked}
use Rattle.sym_table.proofs.reader.RowReader.over_pieces.Goals as goal

pub returns : goal.returns
returns c =
    let pieces = map (λ piece. piece.now) c.args.pieces.items in
    let bytes = concat pieces in
    let source : strip_bom (pieces_left c.of.result) ≡ bytes = ap strip_bom c.of.ensures ∙ unmarked bytes (pieces_piece pieces c.requires.pieces).begins in
    c.of-2.ensures
    ∙ ap Some (
    ap₂ (λ n xs. records_from default_config n st.StartRecord xs) (ap (λ n. n + 1) c.requires.size) source
    ∙ pieces_rows pieces c.requires.pieces)
