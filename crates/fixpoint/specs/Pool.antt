pub mod Pool
pub mod Lending
pub mod PoolLaws
