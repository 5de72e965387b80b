-- The refusal that each error of run files comes to.
-- Causes are this project's profile.
use Rattle.sym_reduce.specs.declared.error.ReduceErr.{ReduceErr}
use Rattle.sym_reduce.specs.declared.error.ReduceErr.TheVariants as reduce_error
use Rattle.sym_command.specs.declared.place.Place.TheVariants as place
use Rattle.sym_message.specs.declared.refusal.Refusal.{Refusal}
use Rattle.sym_message.specs.declared.refusal.Refusal.TheVariants as refusal

-- Files of saved runs that have no totals, or can't be joined.
abbrev pub reduce_refusal : ReduceErr → Refusal
reduce_refusal (reduce_error.Read file) = refusal.Read (place.File file)
reduce_refusal (reduce_error.TooLarge file) = refusal.TooLarge (place.File file)
reduce_refusal (reduce_error.OtherScript file) = refusal.OtherScript file
reduce_refusal (reduce_error.Malformed file) = refusal.Malformed file
reduce_refusal (reduce_error.Apart file) = refusal.Apart file
reduce_refusal (reduce_error.Gap file group) = refusal.Gap file group
reduce_refusal reduce_error.NoMemory = refusal.NoMemory
