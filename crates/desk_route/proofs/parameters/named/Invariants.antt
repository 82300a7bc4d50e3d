use Rattle.std.proofs.Common.{◌≡◌, drop, find, bytes_eq}
use Rattle.desk_route.specs.Parameters.{parameter_name, parameter_of}
use Rattle.desk_route.proofs.parameters.named.Given as goal

abbrev pub invariant-loop-form : goal.invariant-loop-form
invariant-loop-form l =
    find (λ f. bytes_eq (parameter_name (parameter_of f)) l.name) l.forms ≡ find (λ f. bytes_eq (parameter_name (parameter_of f)) l.name) (drop l.form-index l.forms)
