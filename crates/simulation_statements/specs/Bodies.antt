pub mod StatementsSimulate
