-- Forms that a call is handed: what a contract sees of them, and the one that a run names.
use Rattle.std.proofs.Common.{◌≡◌, ℕ, Bool, true, false, List, [], ◌∷◌, Option, Some, None, is_some, refl, ap, subst, ◌∙◌, cond, if◌then◌else◌}
use Rattle.std.specs.List.{All}
use Rattle.std.specs.Option.{option_map, option_map_or}
use Rattle.std.specs.Str.{bytes_eq}
use Rattle.std.proofs.lemmas.List.Elements.{All-head, All-tail}
use Rattle.sym_report.specs.Forms.{FormTexts, form_named}
use Rattle.sym_table.specs.Reading.{Row}
use Rattle.sym_command.specs.Commands.{asks, Command, Form, Reduce, Reduces, Run, Runs, Trace, Traces, command_in, command_of, form_of, forms_of, handed, is_handed, no_texts, texts_of}

module _ {F : Type 0} (called : F → List ℕ) (texts : F → FormTexts) where
  abbrev form_seen : F → Form
  form_seen form = record { name = called form; texts = texts form }

  chosen : (b : Bool) (form : F) (o : Option F) →
      cond b (Some (form_seen form)) (option_map form_seen o) ≡ option_map form_seen (cond b (Some form) o)
  chosen true form o = refl
  chosen false form o = refl

  seen-named : (name : List ℕ) (forms : List F) → form_of (forms_of called texts forms) name ≡ option_map form_seen (form_named called name forms)
  unfolding forms_of
  seen-named name [] = refl
  seen-named name (form ∷ rest) =
      ap (λ o. cond (bytes_eq (called form) name) (Some (form_seen form)) o) (seen-named name rest)
      ∙ chosen (bytes_eq (called form) name) form (form_named called name rest)

  -- The texts of the form that was chosen.
  pub texts-named : (name : List ℕ) (forms : List F) (form : F) → form_named called name forms ≡ Some form → texts_of (forms_of called texts forms) name ≡ texts form
  texts-named name forms form named =
      ap (λ o. option_map_or (λ (f : Form). f.texts) o no_texts) (seen-named name forms ∙ ap (option_map form_seen) named)

  -- A command that names a form is carried out exactly if the form was chosen.
  form-asked : (words : List (List ℕ)) (forms : List F) (shown : Row → Row) (command : Command) (name : List ℕ) (o : Option F) →
      command_in words ≡ Some command → is_handed (forms_of called texts forms) command ≡ is_some (form_of (forms_of called texts forms) name) →
      form_named called name forms ≡ o → command_of (asks words (forms_of called texts forms) shown) ≡ (if is_some o then Some command else None)
  form-asked words forms shown command name o asked by named =
      ap (handed (forms_of called texts forms)) asked
      ∙ ap (λ (b : Bool). if b then Some command else None) (by ∙ ap (λ (found : Option Form). is_some found) (seen-named name forms ∙ ap (option_map form_seen) named))
      ∙ told o
    where
      told : (found : Option F) → (if is_some (option_map form_seen found) then Some command else None) ≡ (if is_some found then Some command else None)
      told None = refl
      told (Some form) = refl

  pub run-handed : (words : List (List ℕ)) (forms : List F) (shown : Row → Row) (run : Run) (form : F) → command_in words ≡ Some (Runs run) →
      form_named called run.form forms ≡ Some form → command_of (asks words (forms_of called texts forms) shown) ≡ Some (Runs run)
  run-handed words forms shown run form asked named = form-asked words forms shown (Runs run) run.form (Some form) asked refl named

  pub run-unhanded : (words : List (List ℕ)) (forms : List F) (shown : Row → Row) (run : Run) → command_in words ≡ Some (Runs run) →
      form_named called run.form forms ≡ None → command_of (asks words (forms_of called texts forms) shown) ≡ None
  run-unhanded words forms shown run asked named = form-asked words forms shown (Runs run) run.form None asked refl named

  pub trace-handed : (words : List (List ℕ)) (forms : List F) (shown : Row → Row) (trace : Trace) (form : F) → command_in words ≡ Some (Traces trace) →
      form_named called trace.form forms ≡ Some form → command_of (asks words (forms_of called texts forms) shown) ≡ Some (Traces trace)
  trace-handed words forms shown trace form asked named = form-asked words forms shown (Traces trace) trace.form (Some form) asked refl named

  pub trace-unhanded : (words : List (List ℕ)) (forms : List F) (shown : Row → Row) (trace : Trace) → command_in words ≡ Some (Traces trace) →
      form_named called trace.form forms ≡ None → command_of (asks words (forms_of called texts forms) shown) ≡ None
  trace-unhanded words forms shown trace asked named = form-asked words forms shown (Traces trace) trace.form None asked refl named

  pub reduce-handed : (words : List (List ℕ)) (forms : List F) (shown : Row → Row) (reduce : Reduce) (form : F) → command_in words ≡ Some (Reduces reduce) →
      form_named called reduce.form forms ≡ Some form → command_of (asks words (forms_of called texts forms) shown) ≡ Some (Reduces reduce)
  reduce-handed words forms shown reduce form asked named = form-asked words forms shown (Reduces reduce) reduce.form (Some form) asked refl named

  pub reduce-unhanded : (words : List (List ℕ)) (forms : List F) (shown : Row → Row) (reduce : Reduce) → command_in words ≡ Some (Reduces reduce) →
      form_named called reduce.form forms ≡ None → command_of (asks words (forms_of called texts forms) shown) ≡ None
  reduce-unhanded words forms shown reduce asked named = form-asked words forms shown (Reduces reduce) reduce.form None asked refl named

here-or-later : {F : Type 0} (P : F → Type 0) (first form : F) (later : Option F) (b : Bool) → P first →
    (later ≡ Some form → P form) → cond b (Some first) later ≡ Some form → P form
here-or-later P first form later true holds rest e = let same : first ≡ form = cc in subst P same holds
here-or-later P first form later false holds rest e = rest e

-- What holds of all forms holds of the one that is chosen.
pub chosen-all : {F : Type 0} (called : F → List ℕ) (P : F → Type 0) (name : List ℕ) (forms : List F) (form : F) →
    All P forms → form_named called name forms ≡ Some form → P form
chosen-all called P name [] form all named = cc
chosen-all called P name (first ∷ rest) form all named =
    here-or-later P first form (form_named called name rest) (bytes_eq (called first) name) (All-head P first rest all)
    (chosen-all called P name rest form (All-tail P first rest all)) named

-- What is asked, by the command of the arguments.
pub read-asked : (words : List (List ℕ)) (forms : List Form) (shown : Row → Row) (command : Option Command) → command_in words ≡ command →
    command_of (asks words forms shown) ≡ handed forms command
read-asked words forms shown command is = ap (handed forms) is
