-- The list, from where each part is proved.
use Rattle.cases.proofs.Example.{checked_by_example}
use Rattle.image.proofs.Cases.{retiring}
use Rattle.starred.specs.Starred.{Starred}
use Rattle.starred.proofs.Printed.{printed_cases}

pub starred : Starred
starred = record { printed = printed_cases; on_the_pair = checked_by_example; retiring = retiring }
