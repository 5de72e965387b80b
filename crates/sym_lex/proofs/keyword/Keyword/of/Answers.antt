-- Only keywords of the word's length can be the word.
use Rattle.std.proofs.Common.{◌∙◌, ap}
use Rattle.std.specs.List.{find}
use Rattle.std.specs.Str.{bytes_eq}
use Rattle.sym_lex.specs.Keywords.{keyword_text}
use Rattle.sym_lex.proofs.Words.{keyword_by_length}
use Rattle.sym_lex.proofs.keyword.Keyword.of.Goals as goal

pub returns : goal.returns
returns c =
    c.first_written.ensures ∙ ap (find (λ k. bytes_eq (keyword_text k) c.args.word.now)) c.of_length.ensures ∙ keyword_by_length c.args.word.now
