pub mod DecimalValue
pub mod NumericOperator
pub mod Operator
pub mod PValue
