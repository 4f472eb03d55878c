use Rattle.std.proofs.Common.{rules}
use Rattle.gfxspec.proofs.error.GfxError.number.Goals as goal

pub returns-in-OutOfMemory : goal.returns-in-OutOfMemory
returns-in-OutOfMemory c = search rules

pub returns-in-TargetSize : goal.returns-in-TargetSize
returns-in-TargetSize c = search rules

pub returns-in-VertexRange : goal.returns-in-VertexRange
returns-in-VertexRange c = search rules

pub returns-in-VertexCount : goal.returns-in-VertexCount
returns-in-VertexCount c = search rules

pub returns-in-DrawRange : goal.returns-in-DrawRange
returns-in-DrawRange c = search rules

pub returns-in-IndexRange : goal.returns-in-IndexRange
returns-in-IndexRange c = search rules

pub returns-in-TopologyUnset : goal.returns-in-TopologyUnset
returns-in-TopologyUnset c = search rules

pub returns-in-ScissorRect : goal.returns-in-ScissorRect
returns-in-ScissorRect c = search rules

pub returns-in-QueryOpen : goal.returns-in-QueryOpen
returns-in-QueryOpen c = search rules

pub returns-in-QueryNotOpen : goal.returns-in-QueryNotOpen
returns-in-QueryNotOpen c = search rules

pub returns-in-QueryNumber : goal.returns-in-QueryNumber
returns-in-QueryNumber c = search rules

pub returns-in-QueryLeftOpen : goal.returns-in-QueryLeftOpen
returns-in-QueryLeftOpen c = search rules

pub returns-in-ListTooLong : goal.returns-in-ListTooLong
returns-in-ListTooLong c = search rules

pub returns-in-TooManyIssues : goal.returns-in-TooManyIssues
returns-in-TooManyIssues c = search rules

pub returns-in-PixelRange : goal.returns-in-PixelRange
returns-in-PixelRange c = search rules

pub returns-in-WorkerCount : goal.returns-in-WorkerCount
returns-in-WorkerCount c = search rules

pub returns-in-NotIssued : goal.returns-in-NotIssued
returns-in-NotIssued c = search rules

pub returns-in-Unfinished : goal.returns-in-Unfinished
returns-in-Unfinished c = search rules

pub returns-in-PortFull : goal.returns-in-PortFull
returns-in-PortFull c = search rules

pub returns-in-PredicateInList : goal.returns-in-PredicateInList
returns-in-PredicateInList c = search rules
