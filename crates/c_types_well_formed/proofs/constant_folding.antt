mod SameBits
pub mod FoldedNumbers
pub mod SizeNumbers
