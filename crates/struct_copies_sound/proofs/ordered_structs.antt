mod RepeatedLeaves
mod MemberLeaves
mod PlainLeaves
mod FoldedLeaves
pub mod OrderedStructs
pub mod MadeTables
mod WorkedOrders
