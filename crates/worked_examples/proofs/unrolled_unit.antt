pub mod WorkedLoop
