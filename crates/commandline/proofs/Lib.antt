mod OperandLemmas
mod WordLemmas
mod WorkersLemmas
