-- The type says what stays the same: the script, which numbers are shown, and the form.
use Rattle.sym_check.specs.Checking.CheckedScripts.{checked_tree}
use Rattle.sym_trace.proofs.files.trace_files.Given as goal

abbrev pub ghosts-trace_rounds : goal.ghosts-trace_rounds
ghosts-trace_rounds g a =
    let form = (g.dyn-1.0.entry a.trace.form.vtable).1 in
    record {
      by = record {
        tree = checked_tree a.script.now.checked.now;
        every = a.trace.every;
        texts = form.texts a.trace.form.value;
        begun = form.gathered a.trace.form.value;
      };
    }
